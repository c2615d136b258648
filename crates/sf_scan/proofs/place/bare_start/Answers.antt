use Rattle.std.proofs.Common.{refl}
use Rattle.sf_scan.proofs.Sets.{marks_table}
use Rattle.sf_scan.proofs.place.bare_start.Goals as goal

pub returns-in-Rfc8941 : goal.returns-in-Rfc8941
returns-in-Rfc8941 c = rw c.in-Rfc8941.is (marks_table _ _ refl)

pub returns-in-Rfc9651 : goal.returns-in-Rfc9651
returns-in-Rfc9651 c = rw c.in-Rfc9651.is (marks_table _ _ refl)
