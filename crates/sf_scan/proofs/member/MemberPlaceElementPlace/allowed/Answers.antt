use Rattle.std.proofs.Common.{refl, ◌==◌}
use Rattle.sf_value.specs.Ascii.{open_bracket}
use Rattle.sf_scan.specs.Places.{in_bare}
use Rattle.sf_scan.specs.declared.place.BarePlace.TheVariants.{Start}
use Rattle.sf_scan.proofs.Sets.{marks_table, marks_or}
use Rattle.sf_scan.proofs.member.MemberPlaceElementPlace.allowed.Goals as goal

pub returns-in-Start-clause-expected : goal.returns-in-Start-clause-expected
returns-in-Start-clause-expected c =
    rw (c.in-Start.is, c.new.ensures) (marks_or _ _ (in_bare c.args.dialect Start)
    (λ b. b == open_bracket) c.allowed.ensures.expected (marks_table _ _ refl))
