use Rattle.sf_use.proofs.Decisions as decisions
use Rattle.sf_use.proofs.laws.fresh_is_younger.Goals as goal

pub returns-clause-younger : goal.returns-clause-younger
returns-clause-younger c = decisions.fresh_is_younger

pub returns-clause-older : goal.returns-clause-older
returns-clause-older c = decisions.older_is_not_fresher

pub returns-clause-invalid : goal.returns-clause-invalid
returns-clause-invalid c = decisions.invalid_is_not_fresh

pub returns-clause-absent : goal.returns-clause-absent
returns-clause-absent c = decisions.invalid_is_not_absent
