use Rattle.sf_rfc_use.proofs.TargetedAgrees.{lifetime_agrees}
use Rattle.sf_rfc_use.proofs.targeted.lifetime_agrees.Goals as goal

pub returns : goal.returns
returns c = lifetime_agrees
