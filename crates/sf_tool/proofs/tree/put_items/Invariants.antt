use Rattle.std.proofs.Common.{drop}
use Rattle.sf_tool.specs.Tree.{items_lines}
use Rattle.sf_write.proofs.Following.{Remains}
use Rattle.sf_tool.proofs.tree.put_items.Given as goal

abbrev pub invariant-loop-item : goal.invariant-loop-item
invariant-loop-item g l =
    Remains g.W.Sink.state g.W.Sink.send_gives l.fn.out l.out l.fn.before l.sent
    (items_lines l.depth l.items) (items_lines l.depth (drop l.item-index l.items))
