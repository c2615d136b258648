use Rattle.sf_write.proofs.Following.{remains_less}
use Rattle.sf_write.proofs.Base64Text.{block_sent}
use Rattle.sf_write.proofs.blobs.put_base64.Goals as goal

pub loop-rest-preserved : goal.loop-rest-preserved
loop-rest-preserved g c =
    let split = c.split_at.ensures in
    let block = block_sent _ _ _ _ _ _ _ c.min.ensures split.front split.back split.front_len
    c.in-Ok.ensures.fits c.in-Ok.ensures.written in
    remains_less c.loop-rest.invariant block c.put-count.ensures
