use Rattle.sf_write.proofs.Following.{then}
use Rattle.sf_tool.proofs.deciding.put_rules.Goals as goal

pub returns : goal.returns
returns g c =
    let shared = rw c.decide-shared.ensures at c.put_decision-sent.ensures in
    let private = rw c.decide-private.ensures at c.put_decision.ensures in
    then c.put_policy-sent.ensures (then shared private)
