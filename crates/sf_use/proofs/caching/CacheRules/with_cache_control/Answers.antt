use Rattle.sf_use.proofs.CacheControlLines.{as_more}
use Rattle.sf_use.proofs.caching.CacheRules.with_cache_control.Goals as goal

pub returns : goal.returns
returns c = λ lines have.
    as_more lines c.args.line.now c.args.self c.rules_from.result c.rules_from.ensures have
