use Rattle.sf_write.proofs.Following.{then}
use Rattle.sf_tool.proofs.tree.put_bare_line.Goals as goal

pub returns : goal.returns
returns g c =
    let word = rw c.type_word.ensures at c.put-sent.ensures in
    then word (then c.put_bare-sent.ensures.text c.put.ensures)
