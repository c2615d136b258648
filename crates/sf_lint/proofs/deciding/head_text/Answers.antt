use Rattle.std.proofs.Common.{◌∙◌, map, inl, inr, subst}
use Rattle.std.proofs.lemmas.Result.{IfOk-weaker}
use Rattle.sf_tool.specs.declared.fields.InputFault.{InputFault}
use Rattle.sf_tool.specs.Fields.{IsFaultOfLines}
use Rattle.sf_lint.proofs.deciding.head_text.Goals as goal

pub returns-in-Ok : goal.returns-in-Ok
returns-in-Ok c =
    let names = c.as_slice.ensures.value ∙ c.in_ok-names.ensures in
    let targets = c.as_slice-targets.ensures.value in
    IfOk-weaker c.decision_lines.result _ _
    (λ text h. inl (
      c.in-Ok.headers,
      rw (names, targets) at c.in-Ok.ensures,
      rw (targets, c.response_age-age.ensures) at h,
    ))
    c.decision_lines.ensures

pub returns-in-Err-Line : goal.returns-in-Err-Line
returns-in-Err-Line c =
    let names = c.as_slice.ensures.value ∙ c.in_ok-names.ensures in
    let targets = c.as_slice-targets.ensures.value in
    let P : InputFault → Type 0 = λ fault. IsFaultOfLines c.as_slice.result.now
    (map (λ line. line.now) c.args.lines.now) fault in
    let refused = subst P c.in-Err-Line.field-0-is c.in-Err-Line.ensures in
    IfOk-weaker c.unread_text.result _ _
    (λ text h. inr (
      c.in-Err-Line.index,
      rw (names, targets) at refused,
      rw c.in-Err-Line.field-0-is at h,
    ))
    c.unread_text.ensures
