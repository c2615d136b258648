use Rattle.std.proofs.Common.{◌≡◌, refl, rules}
use Rattle.std.proofs.iter.Next.{called}
use Rattle.sf_test_alloc.specs.declared.calls.Seen.TheVariants.{Right}
use Rattle.sf_test_alloc.proofs.calls.seen_without_memory.Goals as goal

pub returns : goal.returns
returns g c =
    let right : c.call.result ≡ Right = search rules in
    let first = called g.F.FnMut c.call.ensures right in
    let second = called g.F.FnMut c.call-seen.ensures refl in
    (c.call-seen.new.self, (c.call.new.self, first, (c.call-seen.new.self, second, refl)))
