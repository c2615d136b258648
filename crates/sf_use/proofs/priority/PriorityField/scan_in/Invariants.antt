use Rattle.std.proofs.Common.{option_copied}
use Rattle.sf_view.specs.Cursors.{left_in}
use Rattle.sf_use.specs.Scanning.{with_member}
use Rattle.sf_use.proofs.Scanning.{ReadSoFar, params_of_pairs}
use Rattle.sf_use.proofs.priority.PriorityField.scan_in.Given as goal

abbrev pub invariant-loop-member : goal.invariant-loop-member
invariant-loop-member l = ReadSoFar l.fn.dialect with_member params_of_pairs l.text l.cursor l.asked

abbrev pub decreases-loop-member : goal.decreases-loop-member
decreases-loop-member l = left_in (option_copied l.cursor.rest)
