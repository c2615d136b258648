use Rattle.sf_rfc_use.proofs.TargetedAgrees.{inoperative_agrees}
use Rattle.sf_rfc_use.proofs.targeted.inoperative_agrees.Goals as goal

pub returns : goal.returns
returns c = inoperative_agrees
