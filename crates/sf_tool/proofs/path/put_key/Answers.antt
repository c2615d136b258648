use Rattle.sf_write.proofs.Following.{then}
use Rattle.sf_tool.proofs.path.put_key.Goals as goal

pub returns-in-Some : goal.returns-in-Some
returns-in-Some g c = rw c.in-Some.is (then c.put-sent.ensures c.put_text.ensures)
