use Rattle.std.proofs.Common.{◌≡◌, false, length}
use Rattle.sf_use.specs.CacheControlSteps.{quoted_at}
use Rattle.sf_use.specs.declared.cache_control.Delta.TheVariants.{Empty}
use Rattle.sf_use.proofs.cache_control.quoted.Given as goal

abbrev pub invariant-loop-byte : goal.invariant-loop-byte
invariant-loop-byte l = quoted_at false Empty l.fn.text ≡ quoted_at l.escaped l.delta l.rest

abbrev pub decreases-loop-byte : goal.decreases-loop-byte
decreases-loop-byte l = length l.rest
