use Rattle.sf_rfc_use.proofs.CachingAgrees as agrees
use Rattle.sf_rfc_use.proofs.StalenessAgrees as staleness
use Rattle.sf_rfc_use.proofs.caching.validation_agrees.Goals as goal

pub returns-clause-validated : goal.returns-clause-validated
returns-clause-validated c = agrees.validated_as_required

pub returns-clause-stale : goal.returns-clause-stale
returns-clause-stale c = agrees.stale_as_permitted

pub returns-clause-only : goal.returns-clause-only
returns-clause-only c = staleness.validated_only_as_required
