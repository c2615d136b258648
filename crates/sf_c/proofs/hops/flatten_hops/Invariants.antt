use Rattle.std.proofs.Common.{◌≡◌, take, map}
use Rattle.sf_c.specs.Hops.{hop_content}
use Rattle.sf_c.proofs.hops.flatten_hops.Given as goal

-- the hops so far
abbrev pub invariant-loop-hop : goal.invariant-loop-hop
invariant-loop-hop l = l.path ≡ map hop_content (take l.hop-index l.hops)
