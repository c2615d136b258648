use Rattle.std.proofs.Common.{option_copied}
use Rattle.sf_view.specs.Cursors.{left_in}
use Rattle.sf_use.proofs.Scanning.{ReadSoFar, with_first, offer_of}
use Rattle.sf_use.proofs.targeted.Directives.scan_in.Given as goal

abbrev pub invariant-loop-member : goal.invariant-loop-member
invariant-loop-member l = ReadSoFar l.fn.dialect with_first offer_of l.text l.cursor l.policy

abbrev pub decreases-loop-member : goal.decreases-loop-member
decreases-loop-member l = left_in (option_copied l.cursor.rest)
