use Rattle.std.proofs.Common.{refl, ◌==◌, ◌||◌}
use Rattle.sf_value.specs.Ascii.{comma}
use Rattle.sf_value.specs.Grammar.Classes.{is_sp, is_ows}
use Rattle.sf_scan.proofs.Sets.{marks_table, marks_or}
use Rattle.sf_scan.proofs.series.SeriesPlace.allowed.Goals as goal

pub returns-in-Start-clause-expected : goal.returns-in-Start-clause-expected
returns-in-Start-clause-expected g c =
    let P = g.P.ElementPlace in
    rw (c.in-Start.is, c.new.ensures) (marks_or _ _ (P.next c.args.dialect P.begin) is_sp
    (rw c.start.ensures at c.allowed.ensures.expected) (marks_table _ _ refl))

pub returns-in-InMember-clause-expected : goal.returns-in-InMember-clause-expected
returns-in-InMember-clause-expected g c =
    let after = rw c.allowed-in-InMember.ensures.may_end at c.or_after.ensures.expected in
    rw c.in-InMember.is (after (g.P.ElementPlace.next c.args.dialect c.in-InMember.place)
    (λ b. is_ows b || b == comma) c.allowed-in-InMember.ensures.expected (marks_table _ _ refl))

pub returns-in-Spaces-clause-expected : goal.returns-in-Spaces-clause-expected
returns-in-Spaces-clause-expected g c =
    rw (c.in-Spaces.is, c.new-in-Spaces.ensures) (marks_table _ _ refl)

pub returns-in-Comma-clause-expected : goal.returns-in-Comma-clause-expected
returns-in-Comma-clause-expected g c =
    let P = g.P.ElementPlace in
    rw (c.in-Comma.is, c.new-in-Comma.ensures) (marks_or _ _ (P.next c.args.dialect P.begin) is_ows
    (rw c.start-in-Comma.ensures at c.allowed-in-Comma.ensures.expected) (marks_table _ _ refl))
