use Rattle.std.proofs.Common.{sym, subst}
use Rattle.sf_value.specs.declared.dialect.Dialect.TheVariants.{Rfc9651}
use Rattle.sf_value.specs.Grammar.Canonical.{canon_entry}
use Rattle.sf_write.specs.Writing.{Follows}
use Rattle.sf_c.specs.PriorityParts.{incremental_member}
use Rattle.sf_c.proofs.priority_parts.put_at_i.Goals as goal

pub returns-in-Some : goal.returns-in-Some
returns-in-Some g c = λ k m d e.
    let named = rw c.in-Some.is at e in
    rw c.in-Some.is
    (subst (λ q. Follows g.W.Sink.state g.W.Sink.send_gives c.args.out.now c.put_incremental.new.out
    c.args.before c.put_incremental.result (canon_entry (q, incremental_member c.in-Some.incremental)))
    (sym named) c.put_incremental.ensures)

pub returns-in-None : goal.returns-in-None
returns-in-None g c = λ k m d e. rw c.in-None.is (c.put_entry_view.ensures Rfc9651 k m d)
