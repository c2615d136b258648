use Rattle.std.proofs.Common.{◌≡◌, ◌++◌, take, refl, ap, rules}
use Rattle.sf_c.proofs.ScannedPaths.{put_after}
use Rattle.sf_c.proofs.hop_scan.put_slice.Goals as goal

pub returns-then-slice-clause-put : goal.returns-then-slice-clause-put
returns-then-slice-clause-put c = λ d t h.
    let first = c.split_at_mut-free.ensures.front in
    let prefix : c.split_at_mut-free.result.0.now ≡ take c.args.used c.args.bytes.now
    = first_of (cc, search rules) in
    put_after c.args.bytes.now (c.split_at_mut-free.result.0.now ++ c.decode_to.new.buffer)
    c.decode_to.new.buffer t c.args.used c.in_ok-length.length _ c.requires.used
    (ap (λ y. y ++ c.decode_to.new.buffer) prefix) c.in_ok-length.ensures.within
    (c.in_ok-length.ensures.decoded d t h) refl refl
