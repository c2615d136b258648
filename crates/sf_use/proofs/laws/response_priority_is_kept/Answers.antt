use Rattle.sf_use.proofs.ResponsePriorities as responses
use Rattle.sf_use.proofs.laws.response_priority_is_kept.Goals as goal

pub returns-clause-read : goal.returns-clause-read
returns-clause-read c = responses.read_as_written

pub returns-clause-text : goal.returns-clause-text
returns-clause-text c = responses.read_from_text

pub returns-clause-meant : goal.returns-clause-meant
returns-clause-meant c = responses.is_meant

pub returns-clause-fixed : goal.returns-clause-fixed
returns-clause-fixed c = responses.fixed_is_kept
