use Rattle.sf_rfc_use.proofs.StalenessAgrees as agrees
use Rattle.sf_rfc_use.proofs.caching.staleness_agrees.Goals as goal

pub returns-clause-calculated : goal.returns-clause-calculated
returns-clause-calculated c = agrees.stale_as_calculated

pub returns-clause-unspecified : goal.returns-clause-unspecified
returns-clause-unspecified c = agrees.unspecified_as_stated
