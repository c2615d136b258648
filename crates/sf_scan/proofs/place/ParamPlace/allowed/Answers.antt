use Rattle.std.proofs.Common.{refl, ◌==◌}
use Rattle.sf_value.specs.Ascii.{semicolon}
use Rattle.sf_scan.specs.Places.{in_bare}
use Rattle.sf_scan.proofs.Sets.{marks_table}
use Rattle.sf_scan.proofs.place.ParamPlace.allowed.Goals as goal

pub returns-in-Before-clause-expected : goal.returns-in-Before-clause-expected
returns-in-Before-clause-expected c = rw (c.in-Before.is, c.new.ensures) (marks_table _ _ refl)

pub returns-in-Semicolon-clause-expected : goal.returns-in-Semicolon-clause-expected
returns-in-Semicolon-clause-expected c =
    rw (c.in-Semicolon.is, c.new-in-Semicolon.ensures) (marks_table _ _ refl)

pub returns-in-InKey-clause-expected : goal.returns-in-InKey-clause-expected
returns-in-InKey-clause-expected c =
    rw (c.in-InKey.is, c.new-in-InKey.ensures) (marks_table _ _ refl)

pub returns-in-InValue-clause-expected : goal.returns-in-InValue-clause-expected
returns-in-InValue-clause-expected c =
    let after = rw c.allowed.ensures.may_end at c.or_after.ensures.expected in
    rw c.in-InValue.is (after (in_bare c.args.dialect c.in-InValue.place) (λ b. b == semicolon)
    c.allowed.ensures.expected (marks_table _ _ refl))
