use Rattle.std.proofs.Common.{◌∙◌, append_assoc}
use Rattle.std.proofs.lemmas.Result.{IfOk-weaker}
use Rattle.sf_lint.proofs.report.bad_line.Goals as goal

pub returns : goal.returns
returns c =
    IfOk-weaker c.concatenated.result _ _
    (λ text h. h
    ∙ rw (c.in_ok-words.ensures, c.in_ok-shown.ensures, c.in_ok-caret.ensures)
    (simp append_assoc))
    c.concatenated.ensures
