use Rattle.sf_write.proofs.Following.{then}
use Rattle.sf_tool.proofs.tree.put_inner.Goals as goal

pub returns : goal.returns
returns g c =
    let count = rw c.len.ensures at c.put_count-sent.ensures in
    let items = rw c.as_slice.ensures at c.put_items-sent.ensures in
    then count (then items c.put_params.ensures)
