use Rattle.sf_rfc.proofs.ParsingNumbers.{numbers_agree}
use Rattle.sf_rfc.proofs.parsing.number_parses.Goals as goal

pub returns : goal.returns
returns c = numbers_agree
