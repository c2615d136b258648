use Rattle.sf_write.proofs.Following.{then}
use Rattle.sf_tool.proofs.choice.put_field_line.Goals as goal

pub returns : goal.returns
returns g c =
    then c.put-sent.ensures
    (then c.put_number-sent.ensures
    (then c.put-sent-2.ensures
    (then c.put-sent-3.ensures c.put.ensures)))
