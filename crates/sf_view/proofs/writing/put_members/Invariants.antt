use Rattle.std.proofs.Common.{List, length}
use Rattle.sf_value.specs.declared.dialect.Dialect.{Dialect}
use Rattle.sf_value.specs.declared.value.Member.{Member}
use Rattle.sf_value.specs.Grammar.Canonical.{canon_member, canon_commas, canon_series}
use Rattle.sf_write.proofs.Following.{Remains}
use Rattle.sf_view.specs.View.{DescribesMembers}
use Rattle.sf_view.proofs.Writes.{Unwritten}
use Rattle.sf_view.proofs.writing.put_members.Given as goal

abbrev pub invariant-loop-part : goal.invariant-loop-part
invariant-loop-part g l = (d : Dialect) (xs : List Member)
    → DescribesMembers d l.fn.view.text.now l.fn.view.nodes.now xs
    → Unwritten (DescribesMembers d) (canon_commas canon_member) l.rest
    (Remains g.W.Sink.state g.W.Sink.send_gives l.fn.out l.out l.fn.before l.sent
    (canon_series canon_member xs))

abbrev pub decreases-loop-part : goal.decreases-loop-part
decreases-loop-part g l = length l.rest.nodes.now
