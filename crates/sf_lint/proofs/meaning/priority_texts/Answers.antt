use Rattle.std.proofs.Common.{◌∙◌, refl}
use Rattle.std.proofs.lemmas.Result.{IfOk-weaker}
use Rattle.sf_lint.proofs.meaning.priority_texts.Goals as goal

pub returns : goal.returns
returns c =
    let urgency = rw (c.is_ignored-urgency.ensures, c.get.ensures) at c.in_ok-urgency.ensures in
    let flag = rw (c.is_ignored-flag.ensures, c.get-2.ensures) at c.in_ok-flag.ensures in
    let line = rw c.with_defaults.ensures at c.in_ok-priority_text.ensures in
    IfOk-weaker c.concatenated.result _ _
    (λ text h. h ∙ rw (urgency, flag, line, c.from_dict-asked.ensures) refl)
    c.concatenated.ensures
