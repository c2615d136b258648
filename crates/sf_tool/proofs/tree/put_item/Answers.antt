use Rattle.sf_write.proofs.Following.{then}
use Rattle.sf_tool.proofs.tree.put_item.Goals as goal

pub returns : goal.returns
returns g c = then c.put_bare_line-sent.ensures c.put_params.ensures
