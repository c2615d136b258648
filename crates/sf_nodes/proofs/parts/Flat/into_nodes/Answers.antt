use Rattle.std.proofs.Common.{◌≡◌, ◌∙◌, [], map, sym, subst, rules, arith}
use Rattle.sf_view.specs.View.{DescribesField}
use Rattle.sf_nodes.specs.NodeContents.{content_by}
use Rattle.sf_nodes.proofs.FlatNodes.{parts_small, field_nodes}
use Rattle.sf_nodes.proofs.parts.Flat.into_nodes.Goals as goal

pub nodes_of-requires : goal.nodes_of-requires
nodes_of-requires c = record {
  small = rw c.as_slice-2.ensures.value
      (parts_small 0 c.self.inside.bytes.items c.self.inside.parts.items c.self.invariant.0
      (omega arith));
}

pub returns : goal.returns
returns c =
    let seen = c.self.view_is in
    let described : map (content_by c.self.inside.bytes.items) c.self.inside.parts.items
    ≡ c.args.self = first_of (cc, search rules) in
    λ d v is.
    subst (λ y. DescribesField d c.self.inside.bytes.items y v)
    (sym (rw c.as_slice-2.ensures.value at c.in_ok-nodes.ensures))
    (field_nodes d [] c.self.inside.bytes.items c.self.inside.parts.items v (described ∙ is)
    c.self.invariant.0)
