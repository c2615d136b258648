use Rattle.std.proofs.lemmas.Result.{IfOk-weaker}
use Rattle.sf_tool.proofs.Places.{is_rules_place}
use Rattle.sf_lint.proofs.deciding.decision_lines_in.Goals as goal

pub choice_lines-requires : goal.choice_lines-requires
choice_lines-requires c =
    is_rules_place c.args.dialect _ _ c.in_ok-choice.choice c.in_ok-choice.ensures.chosen

pub returns : goal.returns
returns c =
    IfOk-weaker c.choice_lines.result _ _
    (λ text h. (c.in_ok-choice.choice, c.in_ok-choice.ensures.chosen, h)) c.choice_lines.ensures
