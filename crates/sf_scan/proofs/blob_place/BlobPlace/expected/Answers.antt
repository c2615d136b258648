use Rattle.std.proofs.Common.{refl}
use Rattle.sf_scan.proofs.Sets.{marks_table}
use Rattle.sf_scan.proofs.blob_place.BlobPlace.expected.Goals as goal

pub returns-in-Whole : goal.returns-in-Whole
returns-in-Whole c = rw c.in-Whole.is (marks_table _ _ refl)

pub returns-in-One : goal.returns-in-One
returns-in-One c = rw c.in-One.is (marks_table _ _ refl)

pub returns-in-Two : goal.returns-in-Two
returns-in-Two c = rw c.in-Two.is (marks_table _ _ refl)

pub returns-in-Three : goal.returns-in-Three
returns-in-Three c = rw c.in-Three.is (marks_table _ _ refl)

pub returns-in-Pad : goal.returns-in-Pad
returns-in-Pad c = rw c.in-Pad.is (marks_table _ _ refl)

pub returns-in-Padded : goal.returns-in-Padded
returns-in-Padded c = rw c.in-Padded.is (marks_table _ _ refl)
