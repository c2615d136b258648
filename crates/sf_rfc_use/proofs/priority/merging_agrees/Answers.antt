use Rattle.sf_rfc_use.proofs.PriorityAgrees.{merging_agrees}
use Rattle.sf_rfc_use.proofs.priority.merging_agrees.Goals as goal

pub returns : goal.returns
returns c = merging_agrees
