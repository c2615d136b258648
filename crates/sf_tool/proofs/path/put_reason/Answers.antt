use Rattle.sf_write.proofs.Following.{then}
use Rattle.sf_tool.proofs.path.put_reason.Goals as goal

pub returns : goal.returns
returns g c = then c.put-sent.ensures (rw c.as_bytes.ensures.bytes at c.put.ensures)
