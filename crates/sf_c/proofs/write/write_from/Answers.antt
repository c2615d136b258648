use Rattle.std.proofs.Common.{◌≡◌, ◌∙◌, refl, Some, subst}
use Rattle.sf_value.specs.Grammar.Canonical.{canon}
use Rattle.sf_c.specs.TextBuffers.{PutsText, TextBuffer}
use Rattle.sf_c.specs.Writing.{NodesOutput}
use Rattle.sf_c.proofs.NodeTexts.{writes_nodes}
use Rattle.sf_c.proofs.write.write_from.Goals as goal

pub returns : goal.returns
returns c =
    let old : TextBuffer = record { buffer = c.args.buffer.now; required = c.args.required.now } in
    let new : TextBuffer = record {
      buffer = c.put_text.new.buffer;
      required = c.put_text.new.required;
    } in
    let before : NodesOutput = record {
      buffer = c.args.buffer.now;
      required = c.args.required.now;
      invalid = c.args.invalid.now;
    } in
    let after : NodesOutput = record {
      buffer = c.put_text.new.buffer;
      required = c.put_text.new.required;
      invalid = c.args.invalid.now;
    } in
    let field = c.in-Ok.field in
    let text : c.as_slice.result.now ≡ canon field =
    c.as_slice.ensures.value ∙ c.in-Ok-to_text.ensures.canon in
    let puts : PutsText old new c.as_slice.result.now (Some c.put_text.result) =
    c.put_text.ensures.puts in
    writes_nodes before after c.args.nodes.now c.args.source.now c.args.dialect c.args.kind field
    c.put_text.result c.in-Ok.ensures.0 c.in-Ok.ensures.1
    (subst (λ t. PutsText old new t (Some c.put_text.result)) text puts) refl
