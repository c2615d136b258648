use Rattle.std.proofs.Common.{drop}
use Rattle.sf_tool.specs.Tree.{members_lines}
use Rattle.sf_write.proofs.Following.{Remains}
use Rattle.sf_tool.proofs.tree.put_members.Given as goal

abbrev pub invariant-loop-member : goal.invariant-loop-member
invariant-loop-member g l =
    Remains g.W.Sink.state g.W.Sink.send_gives l.fn.out l.out l.fn.before l.sent
    (members_lines l.members) (members_lines (drop l.member-index l.members))
