use Rattle.std.proofs.Common.{◌∙◌, ap}
use Rattle.sf_value.specs.declared.dialect.Dialect.TheVariants.{Rfc9651}
use Rattle.sf_write.proofs.Following.{remains_all}
use Rattle.sf_c.specs.PriorityParts.{only_if, unless}
use Rattle.sf_c.proofs.ChangedMembers.{unput_less, unput_none}
use Rattle.sf_c.proofs.priority_parts.put_members.Goals as goal

pub returns-in_default : goal.returns-in_default
returns-in_default g c = λ ps t.
    unput_none c.loop-member.rest c.loop-member.first c.loop-member.urgency c.loop-member.incremental
    (c.loop-member.invariant ps t) (c.in_default.ensures.entries Rfc9651) c.put_new.ensures

pub loop-member-init : goal.loop-member-init
loop-member-init g c = λ ps t. record { rest = ps; describes = t; unwritten = remains_all }

pub loop-member-preserved : goal.loop-member-preserved
loop-member-preserved g c = λ ps t.
    unput_less c.loop-member.rest c.in-Some.member c.in-Some.others c.loop-member.first
    c.loop-member.urgency _ c.take_if-new_urgency.result c.loop-member.incremental _
    c.take_if-new_incremental.result c.key-key.result.now (c.loop-member.invariant ps t)
    c.in-Some.ensures.text (c.in-Some.ensures.entries Rfc9651) c.put_separator-sent.ensures
    c.put_member-sent.ensures (c.key-key.ensures.member Rfc9651)
    (c.take_if-new_urgency.ensures.taken
    ∙ ap (λ b. only_if b c.loop-member.urgency) c.is_named.ensures)
    (c.take_if-new_incremental.ensures.taken
    ∙ ap (λ b. only_if b c.loop-member.incremental) c.is_named-in-loop-member.ensures)
    (c.take_if-new_urgency.ensures.left
    ∙ ap (λ b. unless b c.loop-member.urgency) c.is_named.ensures)
    (c.take_if-new_incremental.ensures.left
    ∙ ap (λ b. unless b c.loop-member.incremental) c.is_named-in-loop-member.ensures)
