use Rattle.std.proofs.Common.{◌∙◌}
use Rattle.sf_rfc_use.proofs.TargetedAgrees.{rules_agree}
use Rattle.sf_rfc_use.proofs.targeted.rules_of.Goals as goal

pub returns : goal.returns
returns c = c.from_dict.ensures ∙ rules_agree c.args.dict.now.members
