use Rattle.sf_c.proofs.EachNode.{uncoded_more}
use Rattle.sf_c.proofs.decoding.none_coded.Goals as goal

pub loop-node-preserved : goal.loop-node-preserved
loop-node-preserved c =
    uncoded_more _ _ _ _ c.loop-node.invariant c.loop-node-test.true
