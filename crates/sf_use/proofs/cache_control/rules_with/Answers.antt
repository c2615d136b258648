use Rattle.std.proofs.Common.{rules}
use Rattle.sf_use.specs.CacheControlSteps.{rules_with}
use Rattle.sf_use.proofs.cache_control.rules_with.Goals as goal

pub returns : goal.returns
unfolding rules_with
returns c = search rules
