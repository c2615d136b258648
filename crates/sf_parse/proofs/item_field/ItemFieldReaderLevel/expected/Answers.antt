use Rattle.std.proofs.Common.{refl}
use Rattle.sf_value.specs.Grammar.Words.{allow}
use Rattle.sf_value.specs.Grammar.Classes.{is_sp}
use Rattle.sf_parse.specs.Machine.Items.{item_step, item_finish}
use Rattle.sf_parse.specs.Machine.States.{InsideItem, AfterItem}
use Rattle.sf_parse.proofs.Marks.{marks_onward, marks_steps}
use Rattle.sf_parse.proofs.LevelMarks.{marks_before, marks_after}
use Rattle.sf_parse.proofs.item_field.ItemFieldReaderLevel.expected.Goals as goal

pub returns-in-Before : goal.returns-in-Before
returns-in-Before c =
    rw (← c.self.view_is, c.in-Before.is)
    (marks_before c.args.dialect _ c.first_bytes.ensures)

pub returns-in-Inside : goal.returns-in-Inside
returns-in-Inside c =
    let item = c.self.inside.item in
    rw (← c.self.view_is, c.in-Inside.is, c.set_if.ensures, c.may_end.ensures)
    (marks_onward InsideItem _ _ (item_step c.args.dialect item) (item_finish item)
    (λ i b. allow (is_sp b) (AfterItem i)) c.expected.ensures
    (λ i. marks_steps _ (λ b. allow (is_sp b) (AfterItem i)) refl))

pub returns-in-After : goal.returns-in-After
returns-in-After c =
    let fits = rw c.in-After.is at c.self.invariant in
    rw (← c.self.view_is, c.in-After.is) (marks_after c.args.dialect _ fits)
