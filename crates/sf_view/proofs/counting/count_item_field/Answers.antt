use Rattle.sf_view.proofs.CountedParts.{item_field}
use Rattle.sf_view.proofs.counting.count_item_field.Goals as goal

pub returns : goal.returns
returns c =
    item_field _ _ _ _ _ _ c.after_spaces.ensures c.in_ok-counts.ensures c.after_spaces-2.ensures
    (c.ends.ensures.all c.if-not-ends.false)
