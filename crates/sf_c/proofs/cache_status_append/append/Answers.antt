use Rattle.std.proofs.Common.{◌≡◌, ◌∙◌, Some, subst}
use Rattle.sf_value.specs.Grammar.Canonical.{canon}
use Rattle.sf_c.specs.Appending.{with_own}
use Rattle.sf_c.specs.Normal.{TextOutput}
use Rattle.sf_c.specs.TextBuffers.{PutsText, TextBuffer}
use Rattle.sf_c.proofs.OwnHops.{appends_hop}
use Rattle.sf_c.proofs.cache_status_append.append.Goals as goal

pub returns : goal.returns
returns c =
    let old : TextBuffer = record { buffer = c.args.buffer.now; required = c.args.required.now } in
    let new : TextBuffer = record {
      buffer = c.put_text.new.buffer;
      required = c.put_text.new.required;
    } in
    let before : TextOutput = record {
      buffer = c.args.buffer.now;
      required = c.args.required.now;
      refusal = c.args.refusal.now;
    } in
    let after : TextOutput = record {
      buffer = c.put_text.new.buffer;
      required = c.put_text.new.required;
      refusal = c.parse_list.new.refusal;
    } in
    let l = c.in-Ok-parse_list.list in
    let h = c.in-Ok.own in
    let text : c.as_slice.result.now ≡ canon (with_own l h) =
    c.as_slice.ensures.value ∙ c.in-Ok-appended_text.ensures.text in
    let puts : PutsText old new c.as_slice.result.now (Some c.put_text.result) =
    c.put_text.ensures.puts in
    appends_hop before after c.args.text.now c.args.bytes.now c.args.hop.now c.args.dialect l h
    c.put_text.result c.in-Ok-parse_list.ensures.0 c.in-Ok.ensures
    c.in-Ok-appended_text.ensures.valid
    (subst (λ t. PutsText old new t (Some c.put_text.result)) text puts)
    c.in-Ok-parse_list.ensures.1
