use Rattle.std.proofs.Common.{length}
use Rattle.sf_scan.proofs.BlobStops.{Reached}
use Rattle.sf_scan.proofs.byte_sequence.byte_sequence.Given as goal

abbrev pub invariant-loop-more : goal.invariant-loop-more
invariant-loop-more l = Reached l.text l.left l.place

abbrev pub decreases-loop-more : goal.decreases-loop-more
decreases-loop-more l = length l.left
