use Rattle.sf_rfc.proofs.ParsingWords.{keys_agree}
use Rattle.sf_rfc.proofs.parsing.key_parses.Goals as goal

pub returns : goal.returns
returns c = keys_agree
