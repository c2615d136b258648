use Rattle.sf_rfc.proofs.AbnfSerialised.{serialised_keeps}
use Rattle.sf_rfc.proofs.abnf.serialised_keeps_abnf.Goals as goal

pub returns : goal.returns
returns c = serialised_keeps
