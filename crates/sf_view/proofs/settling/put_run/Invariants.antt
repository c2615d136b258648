use Rattle.std.proofs.Common.{take}
use Rattle.sf_view.specs.Scans.{Puts}
use Rattle.sf_view.proofs.settling.put_run.Given as goal

abbrev pub invariant-loop-node : goal.invariant-loop-node
invariant-loop-node l =
    Puts l.fn.nodes l.nodes l.at l.count (take l.node-index l.run)
