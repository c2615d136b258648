use Rattle.std.proofs.Common.{option_copied}
use Rattle.sf_view.specs.Cursors.{left_in}
use Rattle.sf_view.proofs.CountedParts.{DictTally}
use Rattle.sf_view.proofs.counting.members_in.Given as goal

abbrev pub invariant-loop-start : goal.invariant-loop-start
invariant-loop-start g l =
    DictTally l.dialect (g.T.Tally.has l.tally) l.text (option_copied l.start)

abbrev pub decreases-loop-start : goal.decreases-loop-start
decreases-loop-start g l = left_in (option_copied l.start)
