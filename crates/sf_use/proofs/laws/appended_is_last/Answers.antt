use Rattle.sf_use.proofs.CacheStatusLemmas.ReadBack as back
use Rattle.sf_use.proofs.laws.appended_is_last.Goals as goal

pub returns : goal.returns
returns c = back.appended_is_last
