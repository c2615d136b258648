use Rattle.std.proofs.Common.{option_copied}
use Rattle.sf_view.specs.Cursors.{left_in}
use Rattle.sf_view.proofs.CountedParts.{ListSoFar}
use Rattle.sf_view.proofs.counting.count_list.Given as goal

abbrev pub invariant-loop-start : goal.invariant-loop-start
invariant-loop-start l =
    ListSoFar l.dialect l.text (option_copied l.start) l.counts.nodes l.counts.bytes

abbrev pub decreases-loop-start : goal.decreases-loop-start
decreases-loop-start l = left_in (option_copied l.start)
