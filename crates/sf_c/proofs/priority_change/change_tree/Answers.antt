use Rattle.std.proofs.Common.{◌≡◌, ◌∙◌, ap, Some, subst}
use Rattle.sf_value.specs.declared.dialect.Dialect.TheVariants.{Rfc9651}
use Rattle.sf_value.specs.declared.value.Field.TheVariants as field
use Rattle.sf_value.specs.declared.value.Kind.TheVariants as kind
use Rattle.sf_value.specs.Grammar.Canonical.{canon}
use Rattle.sf_value.specs.Grammar.Valid.{Valid}
use Rattle.sf_use.specs.PriorityUpdate.{updated}
use Rattle.sf_c.specs.Normal.{TextOutput}
use Rattle.sf_c.specs.Priorities.{params_of_flags}
use Rattle.sf_c.specs.TextBuffers.{PutsText, TextBuffer}
use Rattle.sf_c.proofs.NodeTexts.{changes_priority}
use Rattle.sf_c.proofs.priority_change.change_tree.Goals as goal

pub returns : goal.returns
returns c =
    let old : TextBuffer = record { buffer = c.args.buffer.now; required = c.args.required.now } in
    let new : TextBuffer = record {
      buffer = c.put_text.new.buffer;
      required = c.put_text.new.required;
    } in
    let before : TextOutput = record {
      buffer = c.args.buffer.now;
      required = c.args.required.now;
      refusal = c.args.refusal.now;
    } in
    let after : TextOutput = record {
      buffer = c.put_text.new.buffer;
      required = c.put_text.new.required;
      refusal = c.parse_dict.new.refusal;
    } in
    let m = c.in-Ok.dict in
    let p = c.args.priority.now in
    let asked = c.asked.ensures in
    let text : c.as_slice.result.now ≡ canon (field.Dict (updated (params_of_flags p) m)) =
    c.as_slice.ensures.value
    ∙ c.in-Ok-changed_text.ensures.text
    ∙ ap (λ a. canon (field.Dict (updated a m))) asked in
    let puts : PutsText old new c.as_slice.result.now (Some c.put_text.result) =
    c.put_text.ensures.puts in
    changes_priority before after c.args.text.now p m c.put_text.result
    c.in-Ok.ensures.0
    (subst (λ a. Valid Rfc9651 kind.Dict (field.Dict (updated a m))) asked
    c.in-Ok-changed_text.ensures.valid)
    (subst (λ t. PutsText old new t (Some c.put_text.result)) text puts) c.in-Ok.ensures.1
