use Rattle.std.proofs.Common.{◌∙◌, subst}
use Rattle.std.specs.Prelude.{MatchOption}
use Rattle.sf_field.specs.Headers.{value_lines}
use Rattle.sf_use.specs.CacheControl.{AreNoCacheControl, HaveCacheRules}
use Rattle.sf_use.proofs.CacheControlLines.{as_fallback}
use Rattle.sf_use.proofs.cache_control.fallback_rules.Goals as goal

pub returns : goal.returns
returns c =
    rw c.unwrap_or.ensures
    (as_fallback c.args.headers.now c.of_cache_control_lines.result
    (subst
    (λ vs. MatchOption c.of_cache_control_lines.result (AreNoCacheControl (value_lines vs))
    (HaveCacheRules (value_lines vs)))
    (c.iter.ensures ∙ c.get_all.ensures.value) c.of_cache_control_lines.ensures))
