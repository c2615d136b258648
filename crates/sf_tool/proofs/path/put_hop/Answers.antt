use Rattle.sf_write.proofs.Following.{then}
use Rattle.sf_tool.proofs.path.put_hop.Goals as goal

pub returns : goal.returns
returns g c =
    then c.put-sent.ensures
    (then c.put_number-sent.ensures
    (then c.put-sent-2.ensures
    (then c.put_name-sent.ensures
    (then c.put_outcome-sent.ensures c.put_parts.ensures))))
