use Rattle.sf_use.proofs.Decisions as decisions
use Rattle.sf_use.proofs.laws.only_applicable_decide.Goals as goal

pub returns-clause-expires : goal.returns-clause-expires
returns-clause-expires c = decisions.expires_is_ignored

pub returns-clause-others : goal.returns-clause-others
returns-clause-others c = decisions.others_do_not_decide
