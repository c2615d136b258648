use Rattle.std.proofs.Common.{◌≡◌, ◌<◌, [], get_or, length, ◌∙◌, refl}
use Rattle.std.proofs.lemmas.List.{get_or_read_under}
use Rattle.std.proofs.lemmas.Result.{IfOk-weaker}
use Rattle.sf_tool.proofs.deciding.choice_text.Goals as goal

pub returns-in-Field : goal.returns-in-Field
returns-in-Field c =
    let within : c.in-Field.index < length c.args.names.now = rw c.in-Field.is at c.requires in
    let read : c.index-names-index.result ≡ get_or c.args.names.now c.in-Field.index [] =
    get_or_read_under c.args.names.now c.in-Field.index (length c.args.names.now) _ []
    c.index-names-index.is within refl in
    let name : c.as_bytes.result.now ≡ get_or c.args.names.now c.in-Field.index [] =
    c.as_bytes.ensures.value ∙ c.as_str.ensures.value ∙ read in
    rw (c.in-Field.is, ← name) c.chosen_text.ensures

pub returns-in-Fallback : goal.returns-in-Fallback
returns-in-Fallback c =
    rw c.in-Fallback.is
    (IfOk-weaker c.fallback_text.result _ _
    (λ text h. (c.fallback_rules-rules.result, c.fallback_rules-rules.ensures, h))
    c.fallback_text.ensures)
