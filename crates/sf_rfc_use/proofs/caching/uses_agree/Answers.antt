use Rattle.sf_rfc_use.proofs.StalenessAgrees.{used_as_stated}
use Rattle.sf_rfc_use.proofs.caching.uses_agree.Goals as goal

pub returns : goal.returns
returns c = used_as_stated
