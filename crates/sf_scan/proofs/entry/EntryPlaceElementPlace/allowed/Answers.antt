use Rattle.std.proofs.Common.{refl}
use Rattle.sf_scan.proofs.Sets.{marks_table}
use Rattle.sf_scan.proofs.entry.EntryPlaceElementPlace.allowed.Goals as goal

pub returns-in-Start-clause-expected : goal.returns-in-Start-clause-expected
returns-in-Start-clause-expected c = rw (c.in-Start.is, c.new.ensures) (marks_table _ _ refl)

pub returns-in-InKey-clause-expected : goal.returns-in-InKey-clause-expected
returns-in-InKey-clause-expected c =
    rw (c.in-InKey.is, c.new-in-InKey.ensures) (marks_table _ _ refl)
