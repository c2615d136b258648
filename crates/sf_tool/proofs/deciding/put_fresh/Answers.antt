use Rattle.sf_write.proofs.Following.{then}
use Rattle.sf_tool.proofs.deciding.put_fresh.Goals as goal

pub returns : goal.returns
returns g c = then c.put-sent.ensures c.put_number.ensures
