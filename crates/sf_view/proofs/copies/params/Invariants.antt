use Rattle.std.proofs.Common.{◌≡◌, length}
use Rattle.sf_value.specs.declared.dialect.Dialect.{Dialect}
use Rattle.sf_value.specs.declared.value.Bare.{Bare}
use Rattle.sf_value.specs.Grammar.Pairs.{Pairs, settle}
use Rattle.sf_value.specs.Grammar.Tokens.{IsKey}
use Rattle.sf_value.specs.Grammar.Valid.{ValidBare}
use Rattle.sf_value.specs.Grammar.Words.{Each}
use Rattle.sf_view.specs.declared.node_types.Role.{Role}
use Rattle.sf_view.specs.View.{DescribesParams}
use Rattle.sf_view.proofs.Copying.{PairsLeft}
use Rattle.sf_view.proofs.copies.params.Given as goal

abbrev pub invariant-loop-param : goal.invariant-loop-param
invariant-loop-param l = record {
  settled : settle l.all ≡ l.all;
  left : (d : Dialect) (r : Role) (ps : Pairs Bare)
      → DescribesParams d l.view.text.now r l.view.nodes.now ps
      → PairsLeft (λ s. DescribesParams d s r)
      (λ p. Each (λ q. IsKey q.0 × ValidBare d q.1) ps → IsKey p.0 × ValidBare d p.1) l.rest l.all
      ps;
}

abbrev pub decreases-loop-param : goal.decreases-loop-param
decreases-loop-param l = length l.rest.nodes.now
