use Rattle.std.proofs.Common.{◌≡◌, length}
use Rattle.sf_value.specs.declared.dialect.Dialect.{Dialect}
use Rattle.sf_value.specs.declared.value.Member.{Member}
use Rattle.sf_value.specs.Grammar.Words.{Each}
use Rattle.sf_value.specs.Grammar.Pairs.{Pairs, settle}
use Rattle.sf_value.specs.Grammar.Tokens.{IsKey}
use Rattle.sf_value.specs.Grammar.Valid.{ValidMember}
use Rattle.sf_view.specs.View.{DescribesEntries}
use Rattle.sf_view.proofs.Copying.{PairsLeft}
use Rattle.sf_view.proofs.copies.entries.Given as goal

abbrev pub invariant-loop-part : goal.invariant-loop-part
invariant-loop-part l = record {
  settled : settle l.all ≡ l.all;
  left : (d : Dialect) (ps : Pairs Member)
      → DescribesEntries d l.view.text.now l.view.nodes.now ps
      → Each (λ p. IsKey p.0 × ValidMember d p.1) ps
      → PairsLeft (DescribesEntries d) (λ p. IsKey p.0 × ValidMember d p.1) l.rest l.all ps;
}

abbrev pub decreases-loop-part : goal.decreases-loop-part
decreases-loop-part l = length l.rest.nodes.now
