use Rattle.std.proofs.Common.{refl}
use Rattle.sf_scan.proofs.Sets.{marks_table}
use Rattle.sf_scan.proofs.place.BarePlace.expected.Goals as goal

pub returns-in-QuestionMark : goal.returns-in-QuestionMark
returns-in-QuestionMark c = rw c.in-QuestionMark.is (marks_table _ _ refl)

pub returns-in-InToken : goal.returns-in-InToken
returns-in-InToken c = rw c.in-InToken.is (marks_table _ _ refl)

pub returns-in-InString : goal.returns-in-InString
returns-in-InString c = rw c.in-InString.is (marks_table _ _ refl)

pub returns-in-Backslash : goal.returns-in-Backslash
returns-in-Backslash c = rw c.in-Backslash.is (marks_table _ _ refl)
