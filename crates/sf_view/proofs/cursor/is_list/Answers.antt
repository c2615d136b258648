use Rattle.std.proofs.Common.{◌≡◌, None}
use Rattle.sf_value.specs.Grammar.InnerLists.{SpellsMember}
use Rattle.sf_view.proofs.Cursors.{less_left, done_none, done_more, list_only}
use Rattle.sf_view.proofs.cursor.is_list.Goals as goal

pub loop-start-init : goal.loop-start-init
loop-start-init c = done_none (SpellsMember c.args.dialect) _ _ c.first_start-start.ensures

pub loop-start-smaller : goal.loop-start-smaller
loop-start-smaller c =
    let e = c.in_ok-after.ensures.reads in
    rw c.in-Some.is (less_left _ e.prefix _ _ e.split c.in_ok-start.ensures)

pub loop-start-preserved : goal.loop-start-preserved
loop-start-preserved c =
    let e = c.in_ok-after.ensures.reads in
    done_more (SpellsMember c.args.dialect) _ _ e.prefix _ _ _
    (rw c.in-Some.is at c.loop-start.invariant) e.split e.spelled c.in_ok-start.ensures

pub returns : goal.returns
returns c =
    let is = c.in_default.is in
    let none : c.loop-start.start ≡ None = cc in
    (_, list_only _ _ (rw none at c.loop-start.invariant))
