use Rattle.std.proofs.Common.{option_copied}
use Rattle.sf_view.specs.Cursors.{left_in}
use Rattle.sf_c.proofs.PlainPriorities.{PlainSoFar}
use Rattle.sf_c.proofs.plain_priority.PlainPriority.scan.Given as goal

abbrev pub invariant-loop-member : goal.invariant-loop-member
invariant-loop-member l = PlainSoFar l.text l.cursor l.read

abbrev pub decreases-loop-member : goal.decreases-loop-member
decreases-loop-member l = left_in (option_copied l.cursor.rest)
