use Rattle.std.proofs.Common.{refl}
use Rattle.sf_scan.proofs.Sets.{marks_table}
use Rattle.sf_scan.proofs.shown_place.ShownPlace.expected.Goals as goal

pub returns-in-Quote : goal.returns-in-Quote
returns-in-Quote c = rw c.in-Quote.is (marks_table _ _ refl)
