use Rattle.std.proofs.Common.{◌≡◌, List, Option, Some, None, refl, ◌∙◌, subst}
use Rattle.std.specs.Prelude.{MatchOption}
use Rattle.sf_use.specs.declared.caching.CacheRules.{CacheRules}
use Rattle.sf_use.specs.CacheControl.{HasCacheRules, IsNoCacheControl, cache_rules}
use Rattle.sf_use.specs.CacheControlSteps.{ReadsFrom}
use Rattle.sf_use.proofs.CacheControlRules.{as_read}
use Rattle.sf_use.proofs.caching.CacheRules.of_cache_control.Goals as goal

pub returns : goal.returns
returns c = as_read c.args.text.now c.rules_from.result c.rules_from.ensures
