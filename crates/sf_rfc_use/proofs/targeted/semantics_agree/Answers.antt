use Rattle.sf_rfc_use.proofs.SemanticsAgree.{semantics_agree}
use Rattle.sf_rfc_use.proofs.targeted.semantics_agree.Goals as goal

pub returns : goal.returns
returns c = semantics_agree
