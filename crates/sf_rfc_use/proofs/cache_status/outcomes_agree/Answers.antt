use Rattle.sf_rfc_use.proofs.OutcomesAgree as agree
use Rattle.sf_rfc_use.proofs.cache_status.outcomes_agree.Goals as goal

pub returns-clause-outcomes : goal.returns-clause-outcomes
returns-clause-outcomes c = agree.outcomes_agree

pub returns-clause-reasons : goal.returns-clause-reasons
returns-clause-reasons c = agree.reasons_agree

pub returns-clause-passed : goal.returns-clause-passed
returns-clause-passed c = agree.passed_agrees
