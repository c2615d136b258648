use Rattle.sf_rfc.proofs.ParsingAnswers.{answers_agree}
use Rattle.sf_rfc.proofs.parsing.answers_agree.Goals as goal

pub returns : goal.returns
returns c = answers_agree
