use Rattle.std.proofs.Common.{length}
use Rattle.sf_scan.proofs.ShownStops.{Reached}
use Rattle.sf_scan.proofs.display_string.display_string.Given as goal

abbrev pub invariant-loop-escape : goal.invariant-loop-escape
invariant-loop-escape l = Reached l.inside l.left l.chars

abbrev pub decreases-loop-escape : goal.decreases-loop-escape
decreases-loop-escape l = length l.left
