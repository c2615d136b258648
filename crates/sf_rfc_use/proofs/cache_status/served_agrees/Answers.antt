use Rattle.sf_rfc_use.proofs.OutcomesAgree.{served_agrees}
use Rattle.sf_rfc_use.proofs.cache_status.served_agrees.Goals as goal

pub returns : goal.returns
returns c = served_agrees
