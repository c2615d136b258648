use Rattle.std.proofs.Common.{drop}
use Rattle.sf_write.proofs.Following.{Remains}
use Rattle.sf_tool.specs.PathLines.{hop_lines}
use Rattle.sf_tool.proofs.path.put_hops.Given as goal

abbrev pub invariant-loop-place : goal.invariant-loop-place
invariant-loop-place g l =
    Remains g.W.Sink.state g.W.Sink.send_gives l.fn.out l.out l.fn.before l.sent
    (hop_lines 0 l.hops) (hop_lines l.place (drop l.place l.hops))
