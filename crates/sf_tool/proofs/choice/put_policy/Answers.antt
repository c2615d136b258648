use Rattle.sf_write.proofs.Following.{then}
use Rattle.sf_tool.proofs.choice.put_policy.Goals as goal

pub returns : goal.returns
returns g c =
    let shared = rw c.lifetime.ensures at c.put_lifetime-sent.ensures in
    let private = rw c.lifetime-2.ensures at c.put_lifetime-sent-2.ensures in
    then c.put-sent.ensures
    (then shared
    (then c.put-sent-2.ensures
    (then private
    (then c.put-sent-3.ensures c.put_flags.ensures))))
