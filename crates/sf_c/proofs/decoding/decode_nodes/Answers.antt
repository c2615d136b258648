use Rattle.std.proofs.Common.{◌∙◌}
use Rattle.std.proofs.lemmas.List.{length-set}
use Rattle.sf_c.proofs.DecodedNodes.{decoded_more}
use Rattle.sf_c.proofs.decoding.decode_nodes.Goals as goal

pub loop-count-preserved : goal.loop-count-preserved
loop-count-preserved c =
    let i = c.loop-count.invariant in
    record {
      same_nodes =
          length-set c.loop-count.nodes c.loop-count.count c.in_ok-node.node ∙ i.same_nodes;
      same_bytes = c.in_ok-node.ensures.same ∙ i.same_bytes;
      so_far =
          decoded_more c.args.text.now c.args.nodes.now c.loop-count.nodes c.loop-count.bytes
          c.decode_node.new.bytes c.loop-count.used c.in_ok-node.end c.loop-count.count _
          c.in_ok-node.node i.so_far c.loop-count-test.true i.same_nodes
          c.in_ok-node.ensures.decoded;
    }
