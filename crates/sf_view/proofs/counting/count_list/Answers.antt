use Rattle.std.proofs.Common.{◌≡◌, None}
use Rattle.sf_view.proofs.Cursors.{less_left}
use Rattle.sf_view.proofs.CountedParts.{list_none, list_more, list_all}
use Rattle.sf_view.proofs.counting.count_list.Goals as goal

pub loop-start-init : goal.loop-start-init
loop-start-init c = list_none _ _ _ c.first_start-start.ensures

pub loop-start-smaller : goal.loop-start-smaller
loop-start-smaller c =
    let e = c.in_ok-member.ensures.reads in
    rw c.in-Some.is (less_left _ e.prefix _ _ e.split c.in-Some-next_start.ensures)

pub loop-start-preserved : goal.loop-start-preserved
loop-start-preserved c =
    list_more _ _ _ _ _ _ _ _ _ _ _ (rw c.in-Some.is at c.loop-start.invariant)
    c.in_ok-member.ensures c.in-Some-next_start.ensures c.in_ok-counts.ensures.nodes
    c.in_ok-counts.ensures.bytes

pub returns : goal.returns
returns c =
    let is = c.in_default.is in
    let none : c.loop-start.start ≡ None = cc in
    list_all _ _ _ (rw none at c.loop-start.invariant)
