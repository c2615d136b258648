use Rattle.std.proofs.Common.{◌++◌, codes, subst}
use Rattle.sf_write.specs.Writing.{Follows}
use Rattle.sf_c.proofs.ChangedMembers.{urgency_text}
use Rattle.sf_c.proofs.priority_parts.put_urgency.Goals as goal

pub returns : goal.returns
returns g c =
    rw (urgency_text c.args.urgency)
    (subst (λ t. Follows g.W.Sink.state g.W.Sink.send_gives c.args.out.now c.put.new.out
    c.args.before c.put.result (codes "u=" ++ t)) c.digit.ensures c.put.ensures)
