use Rattle.std.proofs.Common.{◌≡◌, ◌<◌, [], get_or, length, ◌∙◌, refl}
use Rattle.std.proofs.lemmas.List.{get_or_read_under}
use Rattle.sf_tool.proofs.running.answer_choice.Goals as goal

pub returns-in-Field : goal.returns-in-Field
returns-in-Field g c =
    let within : c.in-Field.index < length c.args.names.now = rw c.in-Field.is at c.requires in
    let read : c.index-names-index.result ≡ get_or c.args.names.now c.in-Field.index [] =
    get_or_read_under c.args.names.now c.in-Field.index (length c.args.names.now) _ []
    c.index-names-index.is within refl in
    let name : c.as_bytes.result.now ≡ get_or c.args.names.now c.in-Field.index [] =
    c.as_bytes.ensures.value ∙ c.as_str.ensures.value ∙ read in
    rw (c.in-Field.is, ← name) c.answer_chosen.ensures
