use Rattle.sf_write.proofs.Following.{then}
use Rattle.sf_write.proofs.items.put_item.Goals as goal

pub returns-clause-text : goal.returns-clause-text
returns-clause-text g c = then c.put_bare-sent.ensures.text c.put_params.ensures.text
