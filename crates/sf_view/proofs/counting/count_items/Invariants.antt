use Rattle.std.proofs.Common.{length}
use Rattle.sf_view.proofs.CountedParts.{ItemsSoFar}
use Rattle.sf_view.proofs.counting.count_items.Given as goal

abbrev pub invariant-loop-left : goal.invariant-loop-left
invariant-loop-left l = ItemsSoFar l.dialect l.text l.rest l.counts.nodes l.counts.bytes

abbrev pub decreases-loop-left : goal.decreases-loop-left
decreases-loop-left l = length l.rest
