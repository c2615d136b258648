use Rattle.std.proofs.Common.{◌++◌, [], ◌∷◌, ap, ◌∙◌}
use Rattle.sf_c.specs.Hops.{hop_content}
use Rattle.sf_c.proofs.HopLemmas.{PutsHop, TextsOf, hop_held, hop_content_is}
use Rattle.sf_c.proofs.hops.FlatPath.with.Goals.{In_ok-push}
use Rattle.sf_c.proofs.hops.FlatPath.with.Goals as goal

put : (c : In_ok-push) → PutsHop c.self.inside.bytes.items c.put_span.new.bytes.items
    c.put_span-2.new.bytes.items c.put_span-3.new.bytes.items c.put_span-4.new.bytes.items
    c.bytes_of.result.now c.why_token.result.now c.key_bytes.result.now c.detail_bytes.result.now
    c.node_of.result
put c = record {
  name = rw c.node_of.ensures.name c.in_ok-name.ensures;
  why = rw c.node_of.ensures.why_token c.in_ok-why.ensures;
  key = rw c.node_of.ensures.key c.in_ok-key.ensures;
  detail = rw c.node_of.ensures.detail c.in_ok-detail.ensures;
}

texts : (c : In_ok-push) → TextsOf c.args.hop.now c.bytes_of.result.now c.why_token.result.now
    c.key_bytes.result.now c.detail_bytes.result.now
texts c = record {
  name = c.bytes_of.ensures;
  why = c.why_token.ensures;
  key = c.key_bytes.ensures;
  detail = c.detail_bytes.ensures;
}

pub invariant_of-result : goal.invariant_of-result
invariant_of-result c =
    let at = (goal.at.invariant_of-result c).In_ok-push in
    hop_held (put at) (texts at) c.node_of.ensures.says c.self.inside.hops.items
    c.push.new.self.items c.in_ok-push.ensures.items c.self.invariant

pub returns : goal.returns
returns c =
    let at = (goal.at.returns c).In_ok-push in
    hop_content_is (put at) (texts at) c.node_of.ensures.says c.self.inside.hops.items
    c.push.new.self.items c.in_ok-push.ensures.items c.self.invariant.0
    ∙ ap (λ z. z ++ hop_content c.args.hop.now ∷ []) c.self.view_is
