use Rattle.sf_write.proofs.Following.{then}
use Rattle.sf_tool.proofs.refusing.put_found.Goals as goal

pub returns-in-Some : goal.returns-in-Some
returns-in-Some g c =
    let digits = rw c.hex_digits.ensures at c.put.ensures in
    rw c.in-Some.is (then c.put-sent.ensures digits)
