use Rattle.sf_rfc_use.proofs.StalenessAgrees as agrees
use Rattle.sf_rfc_use.proofs.caching.ignoring_agrees.Goals as goal

pub returns-clause-expires : goal.returns-clause-expires
returns-clause-expires c = agrees.expires_as_stated

pub returns-clause-unrecognized : goal.returns-clause-unrecognized
returns-clause-unrecognized c = agrees.unrecognized_ignored
