use Rattle.std.proofs.Common.{◌≡◌, ap, ◌∙◌, drop, length, map, rules, arith, subst, sym}
use Rattle.std.proofs.lemmas.List.{length-map}
use Rattle.sf_nodes.specs.NodeContents.{content_by, content_size}
use Rattle.sf_nodes.proofs.FlatNodes.{parts_small, put_others, written}
use Rattle.sf_nodes.proofs.parts.Flat.write.Goals as goal

pub write_parts-requires-clause-small : goal.write_parts-requires-clause-small
write_parts-requires-clause-small c =
    let seen = c.self.view_is in
    let described : map (content_by c.self.inside.bytes.items) c.self.inside.parts.items
    ≡ c.args.self.now = first_of (cc, search rules) in
    let size = c.self.invariant.1 ∙ ap content_size described in
    let small = c.requires.small in
    rw c.as_slice-2.ensures.value
    (parts_small c.args.start c.self.inside.bytes.items c.self.inside.parts.items
    c.self.invariant.0 (omega arith))

pub returns : goal.returns
returns c =
    let seen = c.self.view_is in
    let described : map (content_by c.self.inside.bytes.items) c.self.inside.parts.items
    ≡ c.args.self.now = first_of (cc, search rules) in
    let bytes = rw c.as_slice.ensures.value at c.put.ensures in
    let nodes = rw c.as_slice-2.ensures.value at c.write_parts.ensures.nodes in
    let whole = written c.args.start c.args.self.now c.self.inside.parts.items
    c.self.inside.bytes.items c.args.bytes.now c.put.new.buffer c.write_parts.new.nodes described
    c.self.invariant bytes nodes in
    let count = sym (ap length described) ∙ length-map c.self.inside.parts.items _ in
    let size = sym (c.self.invariant.1 ∙ ap content_size described) in
    let others = rw c.as_slice-2.ensures.value at c.write_parts.ensures.others in
    record {
      same_nodes = search rules;
      same_bytes = search rules;
      other_nodes = subst (λ k. drop k c.write_parts.new.nodes ≡ drop k c.args.nodes.now)
          (sym count) others;
      other_bytes = put_others c.self.inside.bytes.items c.args.bytes.now c.put.new.buffer _ size
          bytes;
      describes = whole.describes;
      decoded = whole.decoded;
      in_one = whole.in_one;
    }
