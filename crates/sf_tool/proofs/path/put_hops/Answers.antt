use Rattle.std.proofs.Common.{ap}
use Rattle.std.proofs.lemmas.List.{drop_all}
use Rattle.sf_write.proofs.Following.{remains_less, remains_none}
use Rattle.sf_tool.specs.PathLines.{hop_lines}
use Rattle.sf_tool.proofs.Walks.{next_left}
use Rattle.sf_tool.proofs.path.put_hops.Goals as goal

pub loop-place-preserved : goal.loop-place-preserved
loop-place-preserved g c =
    let next = next_left (hop_lines c.loop-place.place) _ _ _ c.loop-place-test.true
    c.index-hops-place.is in
    remains_less c.loop-place.invariant next c.put_hop-sent.ensures

pub returns : goal.returns
returns g c =
    remains_none c.loop-place.invariant
    (ap (hop_lines c.loop-place.place) (drop_all _ _ c.loop-place-test.false))
