use Rattle.std.proofs.Common.{◌≡◌, take}
use Rattle.std.specs.List.{filter_map}
use Rattle.sf_use.specs.CacheStatus.Hops.{member_hop}
use Rattle.sf_use.proofs.cache_status.reading.read_hops.Given as goal

-- the hops of the members so far
abbrev pub invariant-loop-member : goal.invariant-loop-member
invariant-loop-member l =
    l.hops.items ≡ filter_map member_hop (take l.member-index l.members)
