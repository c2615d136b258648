use Rattle.std.proofs.Common.{refl}
use Rattle.sf_scan.proofs.Dates.{date_minus_scans, date_digit_scans, date_start_refused}
use Rattle.sf_scan.proofs.number.date.Goals as goal

pub returns-in-Some : goal.returns-in-Some
returns-in-Some c = λ d. date_minus_scans d _ _ _ c.in-Some.ensures (c.date_digits.ensures d)

pub returns-in-Some-first_digit : goal.returns-in-Some-first_digit
returns-in-Some-first_digit c = λ d.
    date_digit_scans d _ _ _ _ c.in-Some-first_digit.ensures
    (c.date_digits-in-Some-first_digit.ensures d)

pub returns : goal.returns
returns c = λ d.
    date_start_refused d _ c.in_default.ensures c.in_default-first_digit.ensures refl
