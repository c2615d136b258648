use Rattle.std.proofs.Common.{◌≡◌, ◌+◌, drop, length}
use Rattle.sf_nodes.specs.Nodes.{items_content}
use Rattle.sf_nodes.proofs.flattening.count_items.Given as goal

abbrev pub invariant-loop-item : goal.invariant-loop-item
invariant-loop-item l =
    l.count + length (items_content (drop l.item-index l.items))
    ≡ l.more + length (items_content l.items)
