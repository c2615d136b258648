use Rattle.std.proofs.Common.{refl}
use Rattle.sf_scan.proofs.Sets.{marks_table}
use Rattle.sf_scan.proofs.shown_place.expected_second.Goals as goal

pub returns-in-Any : goal.returns-in-Any
returns-in-Any c = rw c.in-Any.is (marks_table _ _ refl)

pub returns-in-FromTwo : goal.returns-in-FromTwo
returns-in-FromTwo c = rw c.in-FromTwo.is (marks_table _ _ refl)

pub returns-in-UpToFour : goal.returns-in-UpToFour
returns-in-UpToFour c = rw c.in-UpToFour.is (marks_table _ _ refl)
