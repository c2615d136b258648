use Rattle.std.proofs.Common.{◌≡◌, ◌∙◌, ap, eqb-true, refl, subst, sym, Some}
use Rattle.std.proofs.lemmas.List.{nil_from_length}
use Rattle.sf_value.specs.declared.value.Dict.{Dict as Dictionary}
use Rattle.sf_value.specs.declared.value.Field.TheVariants as field
use Rattle.sf_value.specs.Grammar.Canonical.{canon}
use Rattle.sf_use.specs.PriorityUpdate.{updated}
use Rattle.sf_c.specs.Normal.{TextOutput}
use Rattle.sf_c.specs.PlainPriorities.{dict_of_plain}
use Rattle.sf_c.specs.Priorities.{dict_of_params, params_of_flags}
use Rattle.sf_c.specs.PriorityChanges as change
use Rattle.sf_c.specs.TextBuffers.{PutsText}
use Rattle.sf_c.proofs.ChangedMembers.{puts_changed}
use Rattle.sf_c.proofs.PlainPriorities.{no_members, none_in, updated_none}
use Rattle.sf_c.proofs.priority_change.change.Goals as goal

pub returns-then-is_empty : goal.returns-then-is_empty
returns-then-is_empty c =
    let old : TextOutput = record {
      buffer = c.args.buffer.now;
      required = c.args.required.now;
      refusal = c.args.refusal.now;
    } in
    let new : TextOutput = record {
      buffer = c.write.new.buffer;
      required = c.write.new.required;
      refusal = c.args.refusal.now;
    } in
    let same : dict_of_params c.asked.result ≡ updated (params_of_flags c.args.priority.now) no_members =
    ap dict_of_params c.asked.ensures ∙ sym (updated_none (params_of_flags c.args.priority.now)) in
    puts_changed old new c.args.text.now c.args.priority.now no_members c.write.result
    (none_in c.args.text.now (nil_from_length c.args.text.now
    (eqb-true _ _ (sym c.is_empty.ensures ∙ c.if-is_empty.true))))
    (subst
    (λ e. PutsText (change.text_buffer old) (change.text_buffer new) (canon (field.Dict e))
    (Some c.write.result))
    same c.write.ensures.puts)
    refl

pub returns-in-Some : goal.returns-in-Some
returns-in-Some c =
    let old : TextOutput = record {
      buffer = c.args.buffer.now;
      required = c.args.required.now;
      refusal = c.args.refusal.now;
    } in
    let new : TextOutput = record {
      buffer = c.put.new.buffer;
      required = c.put.new.required;
      refusal = c.args.refusal.now;
    } in
    let d : Dictionary = dict_of_plain c.in-Some.plain in
    let same : dict_of_plain c.changed.result ≡ updated (params_of_flags c.args.priority.now) d =
    c.changed.ensures ∙ ap (λ a. updated a d) c.asked-in-Some.ensures in
    puts_changed old new c.args.text.now c.args.priority.now d c.put.result c.in-Some.ensures
    (subst
    (λ e. PutsText (change.text_buffer old) (change.text_buffer new) (canon (field.Dict e))
    (Some c.put.result))
    same c.put.ensures)
    refl
