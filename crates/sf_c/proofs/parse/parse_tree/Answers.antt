use Rattle.std.proofs.Common.{inr, refl, arith}
use Rattle.sf_c.proofs.ParsedNodes.{flat_bytes, has_sizes, written_held}
use Rattle.sf_c.proofs.parse.parse_tree.Goals as goal

pub returns-then-required-text : goal.returns-then-required-text
returns-then-required-text c =
    let bytes = flat_bytes c.in-Ok.field c.in-Ok-flatten.flat c.byte_count.result
    c.in-Ok-flatten.ensures c.byte_count.ensures in
    let small = c.requires.small in
    let more = c.if-required-text.true in (
      inr (c.in-Ok.field, c.in-Ok.ensures.0, omega arith),
      (refl, refl),
      refl,
      c.in-Ok.ensures.1,
    )

pub returns-then-nodes-required : goal.returns-then-nodes-required
returns-then-nodes-required c =
    let small = c.requires.small in
    let few = c.if-required-text.false in (
      has_sizes c.args.dialect c.args.kind c.args.text.now c.in-Ok.field c.in-Ok-flatten.flat
          (record { nodes = c.node_count.result; bytes = c.byte_count.result })
          c.nodes_are_few.ensures.nodes c.nodes_are_few.ensures.bytes c.in-Ok.ensures.0
          c.in-Ok-flatten.ensures c.node_count.ensures c.byte_count.ensures (omega arith),
      c.if-nodes-required.true,
      (refl, refl),
      c.in-Ok.ensures.1,
    )

pub returns-then-bytes-required : goal.returns-then-bytes-required
returns-then-bytes-required c =
    let small = c.requires.small in
    let few = c.if-required-text.false in
    let enough = c.if-nodes-required.false in (
      has_sizes c.args.dialect c.args.kind c.args.text.now c.in-Ok.field c.in-Ok-flatten.flat
          (record { nodes = c.node_count.result; bytes = c.byte_count.result })
          c.nodes_are_few.ensures.nodes c.nodes_are_few.ensures.bytes c.in-Ok.ensures.0
          c.in-Ok-flatten.ensures c.node_count.ensures c.byte_count.ensures (omega arith),
      omega arith,
      c.if-bytes-required.true,
      (refl, refl),
      c.in-Ok.ensures.1,
    )

pub returns : goal.returns
returns c =
    let written = c.write.ensures in
    let nodes = written.same_nodes in
    let bytes = written.same_bytes in
    let enough = c.if-nodes-required.false in
    let fits = c.if-bytes-required.false in (
      c.requires.small,
      written_held c.args.dialect c.args.kind c.args.text.now c.in-Ok.field c.in-Ok-flatten.flat
          c.write.new.nodes c.write.new.bytes
          (record { nodes = c.node_count.result; bytes = c.byte_count.result })
          c.nodes_are_few.ensures.nodes c.nodes_are_few.ensures.bytes c.in-Ok.ensures.0
          c.in-Ok-flatten.ensures c.node_count.ensures c.byte_count.ensures (omega arith)
          (omega arith)
          (written.describes c.args.dialect c.args.text.now c.in-Ok.field refl
          c.in-Ok-flatten.ensures) written.decoded written.in_one,
      (nodes, bytes),
      c.in-Ok.ensures.1,
    )
