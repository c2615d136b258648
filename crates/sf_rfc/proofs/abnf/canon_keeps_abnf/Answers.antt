use Rattle.sf_rfc.proofs.AbnfFields.{canon_keeps}
use Rattle.sf_rfc.proofs.abnf.canon_keeps_abnf.Goals as goal

pub returns : goal.returns
returns c = canon_keeps
