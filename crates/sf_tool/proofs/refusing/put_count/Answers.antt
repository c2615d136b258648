use Rattle.sf_write.proofs.Following.{then}
use Rattle.sf_tool.proofs.refusing.put_count.Goals as goal

pub returns : goal.returns
returns g c = then c.put-sent.ensures (then c.put_number-sent.ensures c.put.ensures)
