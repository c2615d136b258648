use Rattle.sf_rfc_use.proofs.PriorityAgrees as agree
use Rattle.sf_rfc_use.proofs.priority.parameters_agree.Goals as goal

pub returns-clause-parameters : goal.returns-clause-parameters
returns-clause-parameters c = agree.parameters_agree

pub returns-clause-lines : goal.returns-clause-lines
returns-clause-lines c = agree.lines_agree

pub returns-clause-unknown : goal.returns-clause-unknown
returns-clause-unknown c = agree.unknown_ignored
