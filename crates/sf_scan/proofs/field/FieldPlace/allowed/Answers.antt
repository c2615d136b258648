use Rattle.std.proofs.Common.{refl}
use Rattle.sf_value.specs.Grammar.Classes.{is_sp}
use Rattle.sf_scan.specs.Items.{in_item}
use Rattle.sf_scan.specs.Places.{in_bare}
use Rattle.sf_scan.specs.declared.place.BarePlace.TheVariants.{Start}
use Rattle.sf_scan.proofs.Sets.{marks_table, marks_or}
use Rattle.sf_scan.proofs.field.FieldPlace.allowed.Goals as goal

pub returns-in-Start-clause-expected : goal.returns-in-Start-clause-expected
returns-in-Start-clause-expected c =
    rw (c.in-Start.is, c.new.ensures) (marks_or _ _ (in_bare c.args.dialect Start) is_sp
    c.allowed.ensures.expected (marks_table _ _ refl))

pub returns-in-InItem-clause-expected : goal.returns-in-InItem-clause-expected
returns-in-InItem-clause-expected c =
    let after = rw c.allowed-in-InItem.ensures.may_end at c.or_after.ensures.expected in
    rw c.in-InItem.is (after (in_item c.args.dialect c.in-InItem.place) is_sp
    c.allowed-in-InItem.ensures.expected (marks_table _ _ refl))

pub returns-in-Spaces-clause-expected : goal.returns-in-Spaces-clause-expected
returns-in-Spaces-clause-expected c =
    rw (c.in-Spaces.is, c.new-in-Spaces.ensures) (marks_table _ _ refl)
