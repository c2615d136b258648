use Rattle.std.proofs.Common.{append_assoc}
use Rattle.sf_write.proofs.Following.{then}
use Rattle.sf_tool.proofs.choice.put_chosen.Goals as goal

pub returns : goal.returns
returns g c = simp append_assoc at (then c.put_field_line-sent.ensures c.put_policy.ensures)
