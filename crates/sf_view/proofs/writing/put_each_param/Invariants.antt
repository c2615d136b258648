use Rattle.std.proofs.Common.{length}
use Rattle.sf_value.specs.declared.dialect.Dialect.{Dialect}
use Rattle.sf_value.specs.declared.value.Bare.{Bare}
use Rattle.sf_value.specs.Grammar.Pairs.{Pairs}
use Rattle.sf_value.specs.Grammar.Canonical.{canon_params}
use Rattle.sf_write.proofs.Following.{Remains}
use Rattle.sf_view.specs.declared.node_types.Role.{Role}
use Rattle.sf_view.specs.View.{DescribesParams}
use Rattle.sf_view.proofs.Writes.{Unwritten}
use Rattle.sf_view.proofs.writing.put_each_param.Given as goal

abbrev pub invariant-loop-param : goal.invariant-loop-param
invariant-loop-param g l = (d : Dialect) (r : Role) (ps : Pairs Bare)
    → DescribesParams d l.view.text.now r l.view.nodes.now ps
    → Unwritten (λ s. DescribesParams d s r) canon_params l.rest
    (Remains g.W.Sink.state g.W.Sink.send_gives l.fn.out l.out l.fn.before l.sent
    (canon_params ps))

abbrev pub decreases-loop-param : goal.decreases-loop-param
decreases-loop-param g l = length l.rest.nodes.now
