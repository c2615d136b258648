use Rattle.sf_view.proofs.Cursors.{item_only}
use Rattle.sf_view.proofs.cursor.is_item.Goals as goal

pub returns-in-Some : goal.returns-in-Some
returns-in-Some c = λ t.
    item_only _ _ _ _ _ c.after_spaces.ensures c.in-Some.ensures
    c.after_spaces-in-Some.ensures (c.ends.ensures.all t)
