use Rattle.std.proofs.Common.{length}
use Rattle.sf_view.proofs.CountedParts.{RawTally}
use Rattle.sf_view.proofs.counting.params_in.Given as goal

abbrev pub invariant-loop-more : goal.invariant-loop-more
invariant-loop-more g l = RawTally l.dialect (g.T.Tally.has l.tally) l.text l.rest

abbrev pub decreases-loop-more : goal.decreases-loop-more
decreases-loop-more g l = length l.rest
