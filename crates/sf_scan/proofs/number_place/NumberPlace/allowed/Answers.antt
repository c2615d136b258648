use Rattle.std.proofs.Common.{refl, nat_lt, nat_le, ◌==◌, ◌&&◌}
use Rattle.sf_value.specs.Ascii.{point}
use Rattle.sf_value.specs.Grammar.Classes.{is_digit}
use Rattle.sf_scan.proofs.Sets.{marks_or, marks_if, marks_table}
use Rattle.sf_scan.proofs.number_place.NumberPlace.allowed.Goals as goal

pub returns-in-Whole-clause-expected : goal.returns-in-Whole-clause-expected
returns-in-Whole-clause-expected c =
    let n = c.in-Whole.count in
    rw (
      c.in-Whole.is,
      c.new.ensures,
      c.set_if-in-Whole-2.ensures,
      c.set_if-in-Whole.ensures,
      c.set_if.ensures,
    )
    (marks_or _ _ (λ b. nat_lt n 15 && is_digit b) (λ b. nat_le 1 n && (nat_le n 12 && b == point))
    (marks_if (nat_lt n 15) _ is_digit (marks_table _ is_digit refl))
    (marks_if (nat_le 1 n) _ (λ b. nat_le n 12 && b == point)
    (marks_if (nat_le n 12) _ (λ b. b == point) (marks_table _ (λ b. b == point) refl))))

pub returns-in-Fraction-clause-expected : goal.returns-in-Fraction-clause-expected
returns-in-Fraction-clause-expected c =
    rw (c.in-Fraction.is, c.new-in-Fraction.ensures, c.set_if-in-Fraction.ensures)
    (marks_if (nat_lt c.in-Fraction.count 3) _ is_digit (marks_table _ is_digit refl))

pub returns-in-At-clause-expected : goal.returns-in-At-clause-expected
returns-in-At-clause-expected c = rw (c.in-At.is, c.new-in-At.ensures) (marks_table _ _ refl)

pub returns-in-DateDigits-clause-expected : goal.returns-in-DateDigits-clause-expected
returns-in-DateDigits-clause-expected c =
    rw (c.in-DateDigits.is, c.new-in-DateDigits.ensures, c.set_if-in-DateDigits.ensures)
    (marks_if (nat_lt c.in-DateDigits.count 15) _ is_digit (marks_table _ is_digit refl))
