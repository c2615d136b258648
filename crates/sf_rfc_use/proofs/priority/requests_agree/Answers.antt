use Rattle.sf_rfc_use.proofs.PriorityAgrees.{requests_agree}
use Rattle.sf_rfc_use.proofs.priority.requests_agree.Goals as goal

pub returns : goal.returns
returns c = requests_agree
