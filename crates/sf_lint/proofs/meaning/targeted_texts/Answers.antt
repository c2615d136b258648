use Rattle.std.proofs.Common.{◌∙◌, refl}
use Rattle.std.proofs.lemmas.Result.{IfOk-weaker}
use Rattle.sf_lint.proofs.meaning.targeted_texts.Goals as goal

pub returns : goal.returns
returns c =
    let age = rw (c.is_ignored-age.ensures, c.get.ensures) at c.in_ok-age.ensures in
    let shared = rw (c.is_ignored-shared.ensures, c.get-2.ensures) at c.in_ok-shared.ensures in
    IfOk-weaker c.concatenated.result _ _
    (λ text h. h ∙ rw (age, shared, c.in_ok-policy_text.ensures, c.from_dict-policy.ensures) refl)
    c.concatenated.ensures
