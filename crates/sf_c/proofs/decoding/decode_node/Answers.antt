use Rattle.std.proofs.Common.{◌≡◌, ◌+◌, ◌++◌, take, sym, ap, subst, rules, arith}
use Rattle.sf_c.specs.Decodings.{IsNodeDecoded}
use Rattle.sf_c.proofs.DecodedNodes.{node_decoded}
use Rattle.sf_c.proofs.decoding.decode_node.Goals as goal

pub returns-clause-decoded : goal.returns-clause-decoded
returns-clause-decoded c =
    let first = c.split_at_mut-free.ensures.front in
    let prefix : c.split_at_mut-free.result.0.now ≡ take c.args.used c.args.bytes.now
    = first_of (cc, search rules) in
    let new = c.split_at_mut-free.result.0.now ++ c.decode_to.new.buffer in
    subst
    (λ m. IsNodeDecoded c.args.text.now c.args.bytes.now new c.args.used c.args.node m
    (c.args.used + c.in_ok-count.count))
    (sym c.decoded_at.ensures)
    (node_decoded c.args.text.now c.args.bytes.now c.decode_to.new.buffer new c.args.used
    c.in_ok-count.count c.args.node c.in_ok-slice.slice c.in_ok-slice.ensures
    (λ z. let h = c.if-node-eq0.false in omega arith) (c.is_within.ensures c.if-not-is_within.false)
    c.requires.used (ap (λ y. y ++ c.decode_to.new.buffer) prefix) c.in_ok-count.ensures.within
    c.in_ok-count.ensures.decoded)
