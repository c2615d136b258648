use Rattle.sf_rfc.proofs.ParsingStrings.{strings_agree}
use Rattle.sf_rfc.proofs.parsing.string_parses.Goals as goal

pub returns : goal.returns
returns c = strings_agree
