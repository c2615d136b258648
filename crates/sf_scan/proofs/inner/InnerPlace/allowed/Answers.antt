use Rattle.std.proofs.Common.{refl, ◌==◌, ◌||◌}
use Rattle.sf_value.specs.Ascii.{close_bracket}
use Rattle.sf_value.specs.Grammar.Classes.{is_sp}
use Rattle.sf_scan.specs.Items.{in_item}
use Rattle.sf_scan.specs.Places.{in_bare}
use Rattle.sf_scan.specs.declared.place.BarePlace.TheVariants.{Start}
use Rattle.sf_scan.proofs.Sets.{marks_table, marks_or}
use Rattle.sf_scan.proofs.inner.InnerPlace.allowed.Goals as goal

pub returns-in-Open-clause-expected : goal.returns-in-Open-clause-expected
returns-in-Open-clause-expected c =
    rw (c.in-Open.is, c.new.ensures) (marks_or _ _ (in_bare c.args.dialect Start)
    (λ b. is_sp b || b == close_bracket) c.allowed.ensures.expected (marks_table _ _ refl))

pub returns-in-InItem-clause-expected : goal.returns-in-InItem-clause-expected
returns-in-InItem-clause-expected c =
    let after = rw c.allowed-in-InItem.ensures.may_end at c.or_after.ensures.expected in
    rw (c.in-InItem.is, c.new-in-InItem.ensures) (after (in_item c.args.dialect c.in-InItem.place)
    (λ b. is_sp b || b == close_bracket) c.allowed-in-InItem.ensures.expected (marks_table _ _ refl))
