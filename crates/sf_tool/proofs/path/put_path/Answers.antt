use Rattle.sf_write.proofs.Following.{then}
use Rattle.sf_tool.proofs.path.put_path.Goals as goal

pub returns : goal.returns
returns g c =
    then (rw c.hops.ensures at c.put_hops-sent.ensures)
    (rw c.served_by.ensures.place at c.put_served.ensures)
