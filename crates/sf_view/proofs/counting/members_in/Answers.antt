use Rattle.std.proofs.Common.{◌≡◌, None}
use Rattle.std.proofs.lemmas.Result.{IfOk-weaker}
use Rattle.sf_view.proofs.Cursors.{less_left}
use Rattle.sf_view.proofs.CountedParts.{dict_none, dict_more, dict_all}
use Rattle.sf_view.proofs.counting.members_in.Goals as goal

pub loop-start-init : goal.loop-start-init
loop-start-init g c =
    dict_none _ (g.T.Tally.has c.args.tally.now) _ _ c.first_start-start.ensures c.requires

pub loop-start-smaller : goal.loop-start-smaller
loop-start-smaller g c =
    let e = c.in_ok-key.ensures.reads in
    rw c.in-Some.is (less_left _ e.prefix _ _ e.split c.in-Some-next_start.ensures)

pub add-requires : goal.add-requires
add-requires g c = c.in_ok-key.ensures.reads.spelled.1

pub loop-start-preserved : goal.loop-start-preserved
loop-start-preserved g c =
    dict_more _ (g.T.Tally.has c.loop-start.tally) (g.T.Tally.has c.add.new.self) _ _ _ _ _ _
    (rw c.in-Some.is at c.loop-start.invariant) c.in_ok-key.ensures c.in-Some-next_start.ensures
    c.in_ok-add.ensures

pub returns : goal.returns
returns g c =
    let is = c.in_default.is in
    let none : c.loop-start.start ≡ None = cc in
    IfOk-weaker c.total.result _ _
    (λ n. dict_all _ (g.T.Tally.has c.loop-start.tally) _ n (rw none at c.loop-start.invariant))
    c.total.ensures
