use Rattle.std.proofs.Common.{◌≡◌, ◌≤◌, ◌++◌, length, drop, zero-add, rules, arith}
use Rattle.sf_c.proofs.Canonicals.{is_answered}
use Rattle.sf_c.proofs.normalise.normalise.Goals as goal

pub returns : goal.returns
returns c =
    let h = c.in-Ok.ensures in
    let text = c.in-Ok.canonical.items in
    let slice = c.as_slice.ensures.value in
    let size : c.len.result ≡ length text = first_of (search rules, grind arith) in
    let within : c.len.result ≤ length c.args.buffer.now = first_of (search rules, grind arith) in
    let prefix : c.put.new.buffer ≡ text ++ drop (length text) c.args.buffer.now =
    rw (zero-add (length c.as_slice.result.now), slice) at c.put.ensures in
    is_answered c.args.dialect c.args.kind c.args.text.now text c.args.buffer.now c.put.new.buffer
    c.args.required.now c.len.result c.args.refusal.now c.canonical.new.refusal h.0 h.1 size within
    prefix
