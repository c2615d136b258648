use Rattle.std.proofs.Common.{◌∙◌}
use Rattle.sf_rfc_use.proofs.TargetedAgrees.{policy_agrees}
use Rattle.sf_rfc_use.proofs.targeted.policy_of.Goals as goal

pub returns : goal.returns
returns c = c.from_dict.ensures ∙ policy_agrees c.args.dict.now.members
