use Rattle.sf_rfc_use.proofs.CachingAgrees as agrees
use Rattle.sf_rfc_use.proofs.StalenessAgrees as staleness
use Rattle.sf_rfc_use.proofs.caching.freshness_agrees.Goals as goal

pub returns-clause-calculated : goal.returns-clause-calculated
returns-clause-calculated c = agrees.fresh_as_calculated

pub returns-clause-used : goal.returns-clause-used
returns-clause-used c = agrees.fresh_is_used

pub returns-clause-max_age : goal.returns-clause-max_age
returns-clause-max_age c = staleness.max_age_as_stated
