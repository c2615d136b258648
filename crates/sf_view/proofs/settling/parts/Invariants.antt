use Rattle.std.proofs.Common.{◌-◌, ◌≤◌, length}
use Rattle.sf_view.proofs.settling.parts.Given as goal

abbrev pub invariant-loop-at : goal.invariant-loop-at
invariant-loop-at l = l.at ≤ length l.nodes

abbrev pub decreases-loop-at : goal.decreases-loop-at
decreases-loop-at l = length l.nodes - l.at
