use Rattle.sf_write.proofs.Following.{then}
use Rattle.sf_write.proofs.dicts.put_inner_after.Goals as goal

pub returns-clause-text : goal.returns-clause-text
returns-clause-text g c = then c.put-sent.ensures c.put_inner.ensures.text
