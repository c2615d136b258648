use Rattle.sf_rfc_use.proofs.TargetedAgrees.{rules_result_agrees}
use Rattle.sf_rfc_use.proofs.targeted.select_rules_in.Goals as goal

pub returns : goal.returns
returns c =
    rules_result_agrees c.args.dialect _ c.args.headers.now c.select_rules_in.result
    c.select_rules_in.ensures.chosen
