use Rattle.sf_rfc_use.proofs.PriorityAgrees as agree
use Rattle.sf_rfc_use.proofs.priority.responses_agree.Goals as goal

pub returns-clause-set : goal.returns-clause-set
returns-clause-set c = agree.responses_agree

pub returns-clause-replies : goal.returns-clause-replies
returns-clause-replies c = agree.replies_agree
