use Rattle.std.proofs.Common.{refl, ◌∷◌, [], ◌++◌}
use Rattle.sf_parse.specs.Machine.Items.{item_step, item_finish}
use Rattle.sf_parse.specs.Machine.Inners.{InItem, after_step}
use Rattle.sf_parse.specs.Machine.Members.{InOne, InMany}
use Rattle.sf_parse.proofs.Marks.{marks_map, marks_onward, marks_steps}
use Rattle.sf_parse.proofs.LevelMarks.{marks_closing, marks_items}
use Rattle.sf_parse.proofs.member.MemberReaderLevel.expected.Goals as goal

pub returns-in-One : goal.returns-in-One
returns-in-One c =
    rw (← c.self.view_is, c.in-One.is)
    (marks_map InOne _ (item_step c.args.dialect c.self.inside.item) c.expected.ensures)

pub returns-in-Closing : goal.returns-in-Closing
returns-in-Closing c =
    let fits = rw c.in-Closing.is at c.self.invariant in
    rw (← c.self.view_is, c.in-Closing.is)
    (marks_closing c.args.dialect _ _ _ fits c.expected-in-Closing.ensures)

pub returns-in-BetweenItems : goal.returns-in-BetweenItems
returns-in-BetweenItems c =
    let is = c.self.inside.items in
    rw (← c.self.view_is, c.in-BetweenItems.is)
    (marks_items c.args.dialect is _ c.first_bytes.ensures)

pub returns-in-InItem : goal.returns-in-InItem
returns-in-InItem c =
    let item = c.self.inside.item in
    let is = c.self.inside.items in
    rw (← c.self.view_is, c.in-InItem.is, c.set_if.ensures, c.may_end.ensures)
    (marks_map InMany _ _ (marks_onward (InItem is) _ _ (item_step c.args.dialect item)
    (item_finish item) (λ i. after_step (is ++ i ∷ [])) c.expected-in-InItem.ensures
    (λ i. marks_steps _ (after_step (is ++ i ∷ [])) refl)))
