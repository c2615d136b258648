use Rattle.std.proofs.Common.{◌≡◌, ◌<◌, [], get_or, length, ◌∙◌, refl}
use Rattle.std.proofs.lemmas.List.{get_or_read_under}
use Rattle.std.proofs.lemmas.Result.{IfOk-weaker}
use Rattle.sf_lint.proofs.deciding.choice_lines.Goals as goal

pub returns-in-Field : goal.returns-in-Field
returns-in-Field c =
    let within : c.in-Field.index < length c.args.targets.now = rw c.in-Field.is at c.requires in
    let read : c.index-targets-index.result ≡ get_or c.args.targets.now c.in-Field.index [] =
    get_or_read_under c.args.targets.now c.in-Field.index (length c.args.targets.now) _ []
    c.index-targets-index.is within refl in
    let name : c.as_str.result.now ≡ get_or c.args.targets.now c.in-Field.index [] =
    c.as_str.ensures.value ∙ read in
    rw (c.in-Field.is, ← name) c.decided_text.ensures

pub returns-in-Fallback : goal.returns-in-Fallback
returns-in-Fallback c =
    rw c.in-Fallback.is
    (IfOk-weaker c.decided_text-in-Fallback.result _ _
    (λ text h. (
      c.fallback_rules-rules.result,
      c.expires_of-expires.result,
      c.fallback_rules-rules.ensures,
      c.expires_of-expires.ensures,
      h,
    ))
    c.decided_text-in-Fallback.ensures)
