use Rattle.sf_write.proofs.Following.{then}
use Rattle.sf_tool.proofs.tree.put_tree.Goals as goal

pub returns-in-Item : goal.returns-in-Item
returns-in-Item g c =
    rw c.in-Item.is (then c.put-sent.ensures (then c.put_margin-sent.ensures c.put_item.ensures))

pub returns-in-List : goal.returns-in-List
returns-in-List g c =
    let count = rw c.len.ensures at c.put_count-sent.ensures in
    let members = rw c.as_slice.ensures at c.put_members.ensures in
    rw c.in-List.is (then count members)

pub returns-in-Dict : goal.returns-in-Dict
returns-in-Dict g c =
    let count = rw c.len-in-Dict.ensures.len at c.put_count-sent-in-Dict.ensures in
    rw c.in-Dict.is (then count c.put_entries.ensures)
