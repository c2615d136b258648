use Rattle.sf_use.proofs.CacheControlLines as lines
use Rattle.sf_use.proofs.laws.cache_control_has_one_meaning.Goals as goal

pub returns-clause-meaning : goal.returns-clause-meaning
returns-clause-meaning c = lines.one_meaning

pub returns-clause-lines : goal.returns-clause-lines
returns-clause-lines c = lines.lines_are_one_list
