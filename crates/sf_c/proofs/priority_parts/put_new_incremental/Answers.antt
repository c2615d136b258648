use Rattle.sf_write.proofs.Following.{then, nothing}
use Rattle.sf_c.proofs.ChangedMembers.{new_incremental, none_new}
use Rattle.sf_c.proofs.priority_parts.put_new_incremental.Goals as goal

pub returns-in-Some : goal.returns-in-Some
returns-in-Some g c =
    rw (c.in-Some.is, new_incremental c.in-Some.incremental c.args.first)
    (then c.put_separator-sent.ensures c.put_incremental.ensures)

pub returns-in-None : goal.returns-in-None
returns-in-None g c = rw (c.in-None.is, none_new c.args.first) nothing
