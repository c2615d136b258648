use Rattle.std.proofs.Common.{◌+◌, set, sym, subst, arith}
use Rattle.sf_c.specs.ScannedHops.{PathSoFar}
use Rattle.sf_c.proofs.ScannedPaths.{hop_read}
use Rattle.sf_c.proofs.hop_scan.put_next.Goals as goal

pub returns-clause-put : goal.returns-clause-put
returns-clause-put c = λ d t u e s r.
    let z = c.args.sizes in
    let n = c.in_ok-node.node in
    subst
    (λ b. PathSoFar d t e (set c.args.hops.now z.hops n) c.put_hop.new.bytes (z.hops + 1) b c.last_hit.result)
    (sym c.end.ensures)
    (hop_read d t u e c.args.hop c.args.hops.now c.args.bytes.now c.put_hop.new.bytes z.hops z.bytes n
    z.served c.last_hit.result s r (omega arith) c.in_ok-node.ensures.put
    c.in_ok-node.ensures.within c.last_hit.ensures.hit c.last_hit.ensures.other)
