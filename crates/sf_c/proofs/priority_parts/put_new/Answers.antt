use Rattle.sf_write.proofs.Following.{then}
use Rattle.sf_c.proofs.ChangedMembers.{new_urgency}
use Rattle.sf_c.proofs.priority_parts.put_new.Goals as goal

pub returns-in-Some : goal.returns-in-Some
returns-in-Some g c =
    rw (c.in-Some.is, new_urgency c.in-Some.urgency c.args.incremental c.args.first)
    (then c.put_separator-sent.ensures
    (then c.put_urgency-sent.ensures c.put_new_incremental.ensures))
