use Rattle.sf_rfc.proofs.AbnfWhiteSpace.{exactly_trimmed}
use Rattle.sf_rfc.proofs.ParsingFields.{fields_agree}
use Rattle.sf_rfc.proofs.abnf.parsed_is_trimmed.Goals as goal

pub returns : goal.returns
returns c d kind t v e = exactly_trimmed d kind t v ((fields_agree d kind t v).0 e)
