use Rattle.sf_write.proofs.Following.{then}
use Rattle.sf_write.proofs.blobs.put_blob.Goals as goal

pub returns : goal.returns
returns g c = then c.put-sent.ensures c.put_base64.ensures
