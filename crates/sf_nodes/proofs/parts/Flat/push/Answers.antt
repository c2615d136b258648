use Rattle.std.proofs.Common.{◌≡◌, ap, refl, false, rules, arith, length}
use Rattle.std.proofs.Common.{length-append}
use Rattle.std.specs.Prelude.{is_err}
use Rattle.sf_nodes.proofs.ContentLemmas.{holds_more, pushed, content_more}
use Rattle.sf_nodes.proofs.parts.Flat.push.Goals as goal

pub invariant_of-self-else-is_err : goal.invariant_of-self-else-is_err
invariant_of-self-else-is_err c =
    let value = c.if-is_err.ensures.value in
    let negation = c.if-is_err.ensures.negation in
    let ok : is_err c.push.result ≡ false = first_of (cc, search rules) in
    let start = ap length c.as_slice-key_at.ensures.value in
    let sum = c.in_ok-text_at.ensures in
    let both = length-append c.self.inside.bytes.items c.args.key.now in
    holds_more c.self.inside.bytes.items _ c.args.key.now c.args.text.now _ _ _
    c.in_ok-extend.ensures (pushed c.push.result _ _ _ c.push.ensures.items ok)
    (record {
      key_at = start;
      key_length = refl;
      text_at = omega arith;
      text_length = refl;
    }) c.self.invariant

pub returns : goal.returns
returns c =
    let value = c.if-is_err.ensures.value in
    let negation = c.if-is_err.ensures.negation in
    let ok : is_err c.push.result ≡ false = first_of (cc, search rules) in
    let start = ap length c.as_slice-key_at.ensures.value in
    let sum = c.in_ok-text_at.ensures in
    let both = length-append c.self.inside.bytes.items c.args.key.now in
    let content = content_more c.self.inside.bytes.items _ c.args.key.now c.args.text.now _ _ _
    c.in_ok-extend.ensures (pushed c.push.result _ _ _ c.push.ensures.items ok)
    (record {
      key_at = start;
      key_length = refl;
      text_at = omega arith;
      text_length = refl;
    }) c.self.invariant.0 in
    let seen = c.self.view_is in
    first_of (cc, search rules)
