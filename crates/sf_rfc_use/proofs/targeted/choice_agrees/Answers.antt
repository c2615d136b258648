use Rattle.sf_rfc_use.proofs.TargetedAgrees as agree
use Rattle.sf_rfc_use.proofs.targeted.choice_agrees.Goals as goal

pub returns-clause-choice : goal.returns-clause-choice
returns-clause-choice c = agree.choice_agrees

pub returns-clause-rules : goal.returns-clause-rules
returns-clause-rules c = agree.rules_choice_agrees

pub returns-clause-others : goal.returns-clause-others
returns-clause-others c = agree.others_do_not_matter
