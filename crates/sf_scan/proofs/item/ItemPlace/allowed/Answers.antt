use Rattle.std.proofs.Common.{refl, ◌==◌}
use Rattle.sf_value.specs.Ascii.{semicolon}
use Rattle.sf_scan.specs.Places.{in_bare}
use Rattle.sf_scan.proofs.Sets.{marks_table}
use Rattle.sf_scan.proofs.item.ItemPlace.allowed.Goals as goal

pub returns-in-InBare-clause-expected : goal.returns-in-InBare-clause-expected
returns-in-InBare-clause-expected c =
    let after = rw c.allowed.ensures.may_end at c.or_after.ensures.expected in
    rw c.in-InBare.is (after (in_bare c.args.dialect c.in-InBare.place) (λ b. b == semicolon)
    c.allowed.ensures.expected (marks_table _ _ refl))
