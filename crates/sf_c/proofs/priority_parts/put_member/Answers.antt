use Rattle.std.proofs.Common.{sym, subst}
use Rattle.sf_value.specs.Grammar.Canonical.{canon_entry}
use Rattle.sf_write.specs.Writing.{Follows}
use Rattle.sf_c.specs.PriorityParts.{urgency_member}
use Rattle.sf_c.proofs.priority_parts.put_member.Goals as goal

pub returns-in-Some : goal.returns-in-Some
returns-in-Some g c = λ k m d e f.
    let named = rw c.in-Some.is at e in
    rw c.in-Some.is
    (subst (λ q. Follows g.W.Sink.state g.W.Sink.send_gives c.args.out.now c.put_urgency.new.out
    c.args.before c.put_urgency.result (canon_entry (q, urgency_member c.in-Some.urgency)))
    (sym named) c.put_urgency.ensures)

pub returns-in-None : goal.returns-in-None
returns-in-None g c = λ k m d e f. rw c.in-None.is (c.put_at_i.ensures k m d f)
