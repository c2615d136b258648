use Rattle.sf_write.proofs.Following.{then}
use Rattle.sf_tool.proofs.path.put_parts.Goals as goal

pub returns : goal.returns
returns g c =
    let stored = rw c.stored.ensures at c.put_flag-sent.ensures in
    let collapsed = rw c.collapsed.ensures at c.put_flag-sent-2.ensures in
    then c.put_status-sent.ensures
    (then stored
    (then collapsed
    (then c.put_ttl-sent.ensures
    (then c.put_key-sent.ensures
    (then c.put_detail-sent.ensures c.put.ensures)))))
