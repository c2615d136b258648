use Rattle.sf_parse.proofs.GrammarLaws.{one_value, canon_one, lines_one}
use Rattle.sf_parse.proofs.laws.one_value.Goals as goal

pub returns-clause-one : goal.returns-clause-one
returns-clause-one c = one_value

pub returns-clause-canon : goal.returns-clause-canon
returns-clause-canon c = canon_one

pub returns-clause-lines : goal.returns-clause-lines
returns-clause-lines c = lines_one
