use Rattle.sf_rfc_use.proofs.CachingAgrees as agrees
use Rattle.sf_rfc_use.proofs.StalenessAgrees as staleness
use Rattle.sf_rfc_use.proofs.caching.storing_agrees.Goals as goal

pub returns-clause-stored : goal.returns-clause-stored
returns-clause-stored c = agrees.stored_as_allowed

pub returns-clause-allowed : goal.returns-clause-allowed
returns-clause-allowed c = agrees.storing_as_allowed

pub returns-clause-authorized : goal.returns-clause-authorized
returns-clause-authorized c = staleness.authorized_as_allowed
