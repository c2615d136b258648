use Rattle.sf_rfc_use.proofs.AddingAgrees.{adding_agrees}
use Rattle.sf_rfc_use.proofs.cache_status.adding_agrees.Goals as goal

pub returns : goal.returns
returns c = adding_agrees
