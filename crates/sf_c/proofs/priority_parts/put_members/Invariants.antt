use Rattle.std.proofs.Common.{Ok, true, length}
use Rattle.sf_value.specs.declared.dialect.Dialect.TheVariants.{Rfc9651}
use Rattle.sf_value.specs.declared.value.Member.{Member}
use Rattle.sf_value.specs.Grammar.Pairs.{Pairs}
use Rattle.sf_write.proofs.Following.{Remains}
use Rattle.sf_view.specs.View.{DescribesEntries}
use Rattle.sf_c.specs.PriorityParts.{inserted, series_text}
use Rattle.sf_c.proofs.ChangedMembers.{Unput}
use Rattle.sf_c.proofs.priority_parts.put_members.Given as goal

abbrev pub invariant-loop-member : goal.invariant-loop-member
invariant-loop-member g l = (ps : Pairs Member)
    → DescribesEntries Rfc9651 l.fn.view.text.now l.fn.view.nodes.now ps
    → Unput l.rest
    (Remains g.W.Sink.state g.W.Sink.send_gives l.fn.out l.out (Ok 0) l.sent
    (series_text true (inserted l.fn.asked.urgency l.fn.asked.incremental ps))) l.first l.urgency
    l.incremental

abbrev pub decreases-loop-member : goal.decreases-loop-member
decreases-loop-member g l = length l.rest.nodes.now
