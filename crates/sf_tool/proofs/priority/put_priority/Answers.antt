use Rattle.sf_write.proofs.Following.{then}
use Rattle.sf_tool.proofs.priority.put_priority.Goals as goal

pub returns : goal.returns
returns g c =
    let urgency = rw c.get.ensures.value at c.put_number-sent.ensures in
    then c.put-sent.ensures
    (then urgency
    (then c.put-sent-2.ensures c.put_incremental.ensures))
