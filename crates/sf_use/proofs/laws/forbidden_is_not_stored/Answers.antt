use Rattle.sf_use.proofs.Decisions as decisions
use Rattle.sf_use.proofs.laws.forbidden_is_not_stored.Goals as goal

pub returns-clause-no_store : goal.returns-clause-no_store
returns-clause-no_store c = decisions.no_store_is_not_stored

pub returns-clause-is_private : goal.returns-clause-is_private
returns-clause-is_private c = decisions.private_is_not_shared

pub returns-clause-must_understand : goal.returns-clause-must_understand
returns-clause-must_understand c = decisions.must_be_understood

pub returns-clause-alone : goal.returns-clause-alone
returns-clause-alone c = decisions.no_store_alone
