use Rattle.std.proofs.Common.{length}
use Rattle.sf_value.specs.declared.dialect.Dialect.{Dialect}
use Rattle.sf_value.specs.declared.value.Member.{Member}
use Rattle.sf_value.specs.Grammar.Pairs.{Pairs}
use Rattle.sf_value.specs.Grammar.Canonical.{canon_entry, canon_commas, canon_series}
use Rattle.sf_write.proofs.Following.{Remains}
use Rattle.sf_view.specs.View.{DescribesEntries}
use Rattle.sf_view.proofs.Writes.{Unwritten}
use Rattle.sf_view.proofs.writing.put_entries.Given as goal

abbrev pub invariant-loop-part : goal.invariant-loop-part
invariant-loop-part g l = (d : Dialect) (xs : Pairs Member)
    → DescribesEntries d l.fn.view.text.now l.fn.view.nodes.now xs
    → Unwritten (DescribesEntries d) (canon_commas canon_entry) l.rest
    (Remains g.W.Sink.state g.W.Sink.send_gives l.fn.out l.out l.fn.before l.sent
    (canon_series canon_entry xs))

abbrev pub decreases-loop-part : goal.decreases-loop-part
decreases-loop-part g l = length l.rest.nodes.now
