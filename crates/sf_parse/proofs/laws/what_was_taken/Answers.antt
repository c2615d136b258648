use Rattle.sf_parse.proofs.Reaching.{reached_nothing, reaches_more, reached_viable, reached_next}
use Rattle.sf_parse.proofs.Reaching.{reached_end}
use Rattle.sf_parse.proofs.Reaching.{reached_stops, reached_all}
use Rattle.sf_parse.proofs.laws.what_was_taken.Goals as goal

pub returns-clause-nothing : goal.returns-clause-nothing
returns-clause-nothing c = reached_nothing

pub returns-clause-more : goal.returns-clause-more
returns-clause-more c = reaches_more

pub returns-clause-viable : goal.returns-clause-viable
returns-clause-viable c = reached_viable

pub returns-clause-next : goal.returns-clause-next
returns-clause-next c = reached_next

pub returns-clause-end : goal.returns-clause-end
returns-clause-end c = reached_end

pub returns-clause-stops : goal.returns-clause-stops
returns-clause-stops c = reached_stops

pub returns-clause-all : goal.returns-clause-all
returns-clause-all c = reached_all
