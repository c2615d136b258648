use Rattle.sf_rfc_use.proofs.CacheStatusAgrees as agree
use Rattle.sf_rfc_use.proofs.cache_status.hops_agree.Goals as goal

pub returns-clause-lists : goal.returns-clause-lists
returns-clause-lists c = agree.hops_agree

pub returns-clause-lines : goal.returns-clause-lines
returns-clause-lines c = agree.lines_agree
