use Rattle.std.proofs.Common.{Option, length}
use Rattle.sf_use.specs.declared.caching.CacheRules.{CacheRules}
use Rattle.sf_use.specs.CacheControlSteps.{ReadsFrom}
use Rattle.sf_use.proofs.cache_control.rules_from.Given as goal

abbrev pub invariant-loop-with_element : goal.invariant-loop-with_element
invariant-loop-with_element l =
    (o : Option CacheRules) → ReadsFrom l.so_far l.rest o → ReadsFrom l.fn.rules l.fn.text o

abbrev pub decreases-loop-with_element : goal.decreases-loop-with_element
decreases-loop-with_element l = length l.rest
