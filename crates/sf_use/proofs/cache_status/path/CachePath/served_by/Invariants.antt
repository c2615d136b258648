use Rattle.std.proofs.Common.{◌≡◌, take}
use Rattle.sf_use.specs.CacheStatus.Served.{served}
use Rattle.sf_use.proofs.cache_status.path.CachePath.served_by.Given as goal

-- the last hit of the hops so far
abbrev pub invariant-loop-index : goal.invariant-loop-index
invariant-loop-index l = l.last ≡ served (take l.index l.hop-items)
