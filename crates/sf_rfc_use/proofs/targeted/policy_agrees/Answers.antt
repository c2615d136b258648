use Rattle.sf_rfc_use.proofs.TargetedAgrees as agree
use Rattle.sf_rfc_use.proofs.targeted.policy_agrees.Goals as goal

pub returns-clause-policy : goal.returns-clause-policy
returns-clause-policy c = agree.policy_agrees

pub returns-clause-rules : goal.returns-clause-rules
returns-clause-rules c = agree.rules_agree

pub returns-clause-counts : goal.returns-clause-counts
returns-clause-counts c = agree.counts_as_in_effect
