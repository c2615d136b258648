use Rattle.sf_parse.proofs.Blocks.{block_on}
use Rattle.sf_parse.proofs.blob.take_groups.Goals as goal

pub loop-rest-preserved : goal.loop-rest-preserved
loop-rest-preserved c =
    block_on _ _ _ _ _ _ _ c.loop-rest.invariant c.decode_groups-count.ensures.goes
    c.in_ok-extend.ensures.bytes

pub returns-then-count-le-BLOCK : goal.returns-then-count-le-BLOCK
returns-then-count-le-BLOCK c =
    block_on _ _ _ _ _ _ _ c.loop-rest.invariant c.decode_groups-count.ensures.goes
    c.in_ok-extend.ensures.bytes
