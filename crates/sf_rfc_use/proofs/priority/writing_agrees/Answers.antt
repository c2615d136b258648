use Rattle.sf_rfc_use.proofs.PriorityAgrees as agree
use Rattle.sf_rfc_use.proofs.priority.writing_agrees.Goals as goal

pub returns-clause-responses : goal.returns-clause-responses
returns-clause-responses c = agree.responses_encode

pub returns-clause-requests : goal.returns-clause-requests
returns-clause-requests c = agree.requests_encode
