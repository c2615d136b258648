use Rattle.sf_view.proofs.CountedParts.{tally_none, tally_more, tally_all}
use Rattle.sf_view.proofs.counting.params_in.Goals as goal

pub loop-more-init : goal.loop-more-init
loop-more-init g c = tally_none _ (g.T.Tally.has c.args.tally.now) _ c.requires

pub add-requires : goal.add-requires
add-requires g c = c.in-Some-read_param.ensures.spelled.4

pub loop-more-preserved : goal.loop-more-preserved
loop-more-preserved g c =
    tally_more _ (g.T.Tally.has c.loop-more.tally) (g.T.Tally.has c.add.new.self) _ _ _ _ _ _ _
    c.loop-more.invariant c.in-Some.ensures c.in-Some-read_param.ensures c.in_ok-add.ensures
    c.of_bare.ensures.nodes c.of_bare.ensures.bytes

pub returns : goal.returns
returns g c =
    tally_all _ (g.T.Tally.has c.loop-more.tally) _ _ _ c.loop-more.invariant c.in_ok-total.ensures
