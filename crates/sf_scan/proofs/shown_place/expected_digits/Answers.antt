use Rattle.std.proofs.Common.{refl}
use Rattle.sf_scan.proofs.Sets.{marks_table}
use Rattle.sf_scan.proofs.shown_place.expected_digits.Goals as goal

pub returns-in-Start : goal.returns-in-Start
returns-in-Start c = rw c.in-Start.is (marks_table _ _ refl)

pub returns-in-Last : goal.returns-in-Last
returns-in-Last c = rw c.in-Last.is (marks_table _ _ refl)

pub returns-in-LastTwo : goal.returns-in-LastTwo
returns-in-LastTwo c = rw c.in-LastTwo.is (marks_table _ _ refl)

pub returns-in-LastThree : goal.returns-in-LastThree
returns-in-LastThree c = rw c.in-LastThree.is (marks_table _ _ refl)

pub returns-in-AfterE0 : goal.returns-in-AfterE0
returns-in-AfterE0 c = rw c.in-AfterE0.is (marks_table _ _ refl)

pub returns-in-AfterEd : goal.returns-in-AfterEd
returns-in-AfterEd c = rw c.in-AfterEd.is (marks_table _ _ refl)

pub returns-in-AfterF0 : goal.returns-in-AfterF0
returns-in-AfterF0 c = rw c.in-AfterF0.is (marks_table _ _ refl)

pub returns-in-AfterF4 : goal.returns-in-AfterF4
returns-in-AfterF4 c = rw c.in-AfterF4.is (marks_table _ _ refl)
