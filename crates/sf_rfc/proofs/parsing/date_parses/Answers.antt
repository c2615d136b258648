use Rattle.sf_rfc.proofs.ParsingNumbers.{dates_agree}
use Rattle.sf_rfc.proofs.parsing.date_parses.Goals as goal

pub returns : goal.returns
returns c = dates_agree
