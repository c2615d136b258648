use Rattle.sf_write.proofs.Following.{then}
use Rattle.sf_tool.proofs.path.put_status.Goals as goal

pub returns-in-Some : goal.returns-in-Some
returns-in-Some g c =
    let digits = rw c.get.ensures.code at c.put_number.ensures in
    rw (← c.status.ensures, c.in-Some.is) (then c.put-sent.ensures digits)
