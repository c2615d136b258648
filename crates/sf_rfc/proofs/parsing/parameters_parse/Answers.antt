use Rattle.sf_rfc.proofs.ParsingParameters.{parameters_agree}
use Rattle.sf_rfc.proofs.parsing.parameters_parse.Goals as goal

pub returns : goal.returns
returns c = parameters_agree
