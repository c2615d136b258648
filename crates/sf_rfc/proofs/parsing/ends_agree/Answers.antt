use Rattle.sf_rfc.proofs.ParsingAnswers.{ends_agree}
use Rattle.sf_rfc.proofs.parsing.ends_agree.Goals as goal

pub returns : goal.returns
returns c = ends_agree
