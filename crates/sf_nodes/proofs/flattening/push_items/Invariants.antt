use Rattle.std.proofs.Common.{◌≡◌, ◌++◌, drop}
use Rattle.sf_nodes.specs.Nodes.{items_content}
use Rattle.sf_nodes.proofs.flattening.push_items.Given as goal

abbrev pub invariant-loop-item : goal.invariant-loop-item
invariant-loop-item l =
    l.flat ++ items_content (drop l.item-index l.items) ≡ l.fn.flat ++ items_content l.items
