use Rattle.sf_rfc.proofs.ParsingWords.{tokens_agree}
use Rattle.sf_rfc.proofs.parsing.token_parses.Goals as goal

pub returns : goal.returns
returns c = tokens_agree
