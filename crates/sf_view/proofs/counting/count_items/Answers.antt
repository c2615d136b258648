use Rattle.sf_view.proofs.CountedParts.{items_first, items_none, items_last, items_next}
use Rattle.sf_view.proofs.counting.count_items.Goals as goal

pub loop-left-init : goal.loop-left-init
loop-left-init c = items_first _ _ _ c.after_spaces-rest.ensures

pub returns-in-Some : goal.returns-in-Some
returns-in-Some c = items_none _ _ _ _ _ _ c.loop-left.invariant c.in-Some.ensures

pub loop-left-preserved : goal.loop-left-preserved
loop-left-preserved c =
    items_next _ _ _ _ _ _ _ _ _ _ _ _ c.loop-left.invariant c.in_ok-item.ensures c.in-Some-strip_byte.ensures
    c.after_spaces-rest-in-loop-left.ensures c.in_ok-counts.ensures.nodes
    c.in_ok-counts.ensures.bytes

pub returns-in_default-strip_byte : goal.returns-in_default-strip_byte
returns-in_default-strip_byte c =
    items_last _ _ _ _ _ _ _ _ _ _ _ c.loop-left.invariant c.in_ok-item.ensures
    c.in-Some-strip_byte-2.ensures c.in_ok-counts.ensures.nodes c.in_ok-counts.ensures.bytes
