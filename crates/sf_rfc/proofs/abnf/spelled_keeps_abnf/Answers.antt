use Rattle.sf_rfc.proofs.AbnfFields.{spelled_keeps}
use Rattle.sf_rfc.proofs.abnf.spelled_keeps_abnf.Goals as goal

pub returns : goal.returns
returns c = spelled_keeps
