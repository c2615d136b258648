use Rattle.std.proofs.Common.{ap, refl}
use Rattle.std.proofs.lemmas.List.{drop_all}
use Rattle.sf_tool.specs.Tree.{items_lines}
use Rattle.sf_tool.proofs.Walks.{next_left}
use Rattle.sf_write.proofs.Following.{remains_less, remains_none}
use Rattle.sf_tool.proofs.tree.put_items.Goals as goal

pub loop-item-preserved : goal.loop-item-preserved
loop-item-preserved g c =
    let next = next_left (items_lines c.args.depth) _ _ _ c.loop-item-test.true c.item-item.is in
    let margin = remains_less c.loop-item.invariant next c.put_margin-sent.ensures in
    remains_less margin refl c.put_item-sent.ensures

pub returns : goal.returns
returns g c =
    remains_none c.loop-item.invariant
    (ap (items_lines c.args.depth) (drop_all _ _ c.loop-item-test.false))
