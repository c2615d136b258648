use Rattle.std.proofs.Common.{length}
use Rattle.sf_view.specs.Accepts.{IsListed}
use Rattle.sf_view.proofs.series.list_from.Given as goal

abbrev pub invariant-loop-scan : goal.invariant-loop-scan
invariant-loop-scan l = IsListed l.dialect l.text l.rest l.nodes l.count

abbrev pub decreases-loop-scan : goal.decreases-loop-scan
decreases-loop-scan l = length l.rest
