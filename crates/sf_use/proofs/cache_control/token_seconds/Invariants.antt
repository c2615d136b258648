use Rattle.std.proofs.Common.{◌≡◌, drop}
use Rattle.sf_use.specs.CacheControlSteps.{with_bytes}
use Rattle.sf_use.specs.declared.cache_control.Delta.TheVariants.{Empty}
use Rattle.sf_use.proofs.cache_control.token_seconds.Given as goal

abbrev pub invariant-loop-byte : goal.invariant-loop-byte
invariant-loop-byte l = with_bytes Empty l.token ≡ with_bytes l.delta (drop l.byte-index l.token)
