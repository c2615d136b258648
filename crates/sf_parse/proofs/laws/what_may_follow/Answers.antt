use Rattle.sf_parse.proofs.laws.what_may_follow.Goals as goal
use Rattle.sf_parse.proofs.StateTests.{takes_next, ends_text}
use Rattle.sf_parse.proofs.Below.{next_below, some_next}

pub returns-clause-next : goal.returns-clause-next
returns-clause-next c = takes_next

pub returns-clause-end : goal.returns-clause-end
returns-clause-end c = ends_text

pub returns-clause-below : goal.returns-clause-below
returns-clause-below c = next_below

pub returns-clause-some : goal.returns-clause-some
returns-clause-some c = some_next
