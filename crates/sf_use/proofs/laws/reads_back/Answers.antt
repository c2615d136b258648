use Rattle.sf_use.proofs.CacheStatusLemmas.ReadBack as back
use Rattle.sf_use.proofs.laws.reads_back.Goals as goal

pub returns : goal.returns
returns c = back.reads_back
