use Rattle.std.proofs.Common.{Ok, subst, sym, ◌∙◌}
use Rattle.sf_write.specs.Writing.{Follows}
use Rattle.sf_c.proofs.ChangedMembers.{change_text}
use Rattle.sf_c.proofs.priority_parts.ChangedPriorityParts.put.Goals as goal

pub returns : goal.returns
returns g c = λ t s.
    subst (λ u. Follows g.W.Sink.state g.W.Sink.send_gives c.args.out.now c.put_members.new.out
    (Ok 0) c.put_members.result u) (sym (s.3 ∙ change_text c.args.self.now.asked s.0 s.2))
    (c.put_members.ensures s.0.members s.1)
