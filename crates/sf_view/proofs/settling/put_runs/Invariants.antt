use Rattle.std.proofs.Common.{take}
use Rattle.sf_view.specs.Scans.{Puts}
use Rattle.sf_view.specs.Settling.{runs_of}
use Rattle.sf_view.proofs.settling.put_runs.Given as goal

abbrev pub invariant-loop-start : goal.invariant-loop-start
invariant-loop-start l =
    Puts l.fn.nodes l.nodes 0 l.count (runs_of l.raw (take l.start-index l.order))
