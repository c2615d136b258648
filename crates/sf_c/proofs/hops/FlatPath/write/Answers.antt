use Rattle.std.proofs.Common.{◌≡◌, map, rules}
use Rattle.sf_c.specs.Hops.{hop_content_by}
use Rattle.sf_c.proofs.HopLemmas.{hops_at_start}
use Rattle.sf_c.proofs.hops.FlatPath.write.Goals as goal

pub returns-clause-hops : goal.returns-clause-hops
returns-clause-hops c =
    let seen = c.self.view_is in
    let described : map (hop_content_by c.self.inside.bytes.items) c.self.inside.hops.items
    ≡ c.args.self.now = first_of (cc, search rules) in
    let hops = rw c.as_slice.ensures.value at c.put.ensures in
    let bytes = rw c.as_slice-2.ensures.value at c.put-2.ensures in
    hops_at_start c.args.self.now c.args.hops.now c.put.new.buffer c.self.inside.hops.items
    c.args.bytes.now c.put-2.new.buffer c.self.inside.bytes.items described c.self.invariant
    hops bytes
