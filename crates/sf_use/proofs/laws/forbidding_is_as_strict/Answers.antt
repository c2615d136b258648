use Rattle.sf_use.proofs.CacheControlStrictness as strictness
use Rattle.sf_use.proofs.laws.forbidding_is_as_strict.Goals as goal

pub returns : goal.returns
returns c = strictness.forbidding_is_as_strict
