use Rattle.sf_rfc.proofs.AbnfWhiteSpace.{exactly_trimmed}
use Rattle.sf_rfc.proofs.abnf.abnf_is_trimmed.Goals as goal

pub returns : goal.returns
returns c = exactly_trimmed
