use Rattle.sf_parse.proofs.WholeParts.{items_after, items_apart, items_end, items_then}
use Rattle.sf_parse.proofs.WholeParts.{item_shorter}
use Rattle.sf_parse.proofs.whole_parts.read_items.Goals as goal

pub loop-left-init : goal.loop-left-init
loop-left-init c = λ all s r. items_after _ _ _ _ _ _ c.after_spaces-rest.ensures r

pub returns-in-Some : goal.returns-in-Some
returns-in-Some c = c.loop-left.invariant _ _ (items_end _ 0 _ _ _ c.in-Some.ensures)

pub returns-in-Closed : goal.returns-in-Closed
returns-in-Closed c =
    let one = rw c.in-Closed.is at c.in_ok-left.ensures in
    c.loop-left.invariant _ _
    (items_then _ _ _ _ _ _ _ _ one.reads one.added (items_end _ 1 _ _ _ one.after))

pub loop-left-preserved : goal.loop-left-preserved
loop-left-preserved c =
    let one = rw c.in-Open.is at c.in_ok-left.ensures in
    let after = one.after in
    λ all s r. c.loop-left.invariant _ _
    (items_then _ _ _ _ _ _ _ _ one.reads one.added
    (items_apart _ _ _ _ _ _ _ after.1 after.2 r))

pub loop-left-smaller : goal.loop-left-smaller
loop-left-smaller c =
    let one = rw c.in-Open.is at c.in_ok-left.ensures in
    let after = one.after in
    item_shorter c.args.context.now.dialect _ _ _ _ _ one.reads after.1 after.2
