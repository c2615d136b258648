use Rattle.sf_parse.proofs.GrammarLaws.{is_viable, is_next, is_end, stops_at}
use Rattle.sf_parse.proofs.laws.refusals_are_exact.Goals as goal

pub returns-clause-viable : goal.returns-clause-viable
returns-clause-viable c = is_viable

pub returns-clause-next : goal.returns-clause-next
returns-clause-next c = is_next

pub returns-clause-end : goal.returns-clause-end
returns-clause-end c = is_end

pub returns-clause-place : goal.returns-clause-place
returns-clause-place c = stops_at
