use Rattle.sf_rfc.proofs.ParsingBase64.{byte_sequences_agree}
use Rattle.sf_rfc.proofs.parsing.byte_sequence_parses.Goals as goal

pub returns : goal.returns
returns c = byte_sequences_agree
