use Rattle.sf_rfc.proofs.ParsingDisplay.{display_strings_agree}
use Rattle.sf_rfc.proofs.parsing.display_string_parses.Goals as goal

pub returns : goal.returns
returns c = display_strings_agree
