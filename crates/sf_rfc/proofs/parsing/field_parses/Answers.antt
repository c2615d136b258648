use Rattle.sf_rfc.proofs.ParsingFields.{fields_agree}
use Rattle.sf_rfc.proofs.parsing.field_parses.Goals as goal

pub returns : goal.returns
returns c = fields_agree
