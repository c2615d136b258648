use Rattle.std.proofs.Common.{refl, false, true}
use Rattle.sf_scan.proofs.Bares.{boolean_read, boolean_refused}
use Rattle.sf_scan.proofs.bare.boolean.Goals as goal

pub returns-in-Some : goal.returns-in-Some
returns-in-Some c = λ d. boolean_read d false _ _ c.in-Some.ensures refl

pub returns-in-Some-strip_byte : goal.returns-in-Some-strip_byte
returns-in-Some-strip_byte c = λ d. boolean_read d true _ _ c.in-Some-strip_byte.ensures refl

pub returns : goal.returns
returns c = λ d. boolean_refused d _ c.in_default.ensures c.in_default-strip_byte.ensures refl
