use Rattle.sf_rfc.proofs.ParsingStrings.{booleans_agree}
use Rattle.sf_rfc.proofs.parsing.boolean_parses.Goals as goal

pub returns : goal.returns
returns c = booleans_agree
