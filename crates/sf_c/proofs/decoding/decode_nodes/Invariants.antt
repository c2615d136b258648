use Rattle.std.proofs.Common.{◌≡◌, ◌-◌, length}
use Rattle.sf_c.proofs.DecodedNodes.{SoFar}
use Rattle.sf_c.proofs.decoding.decode_nodes.Given as goal

abbrev pub invariant-loop-count : goal.invariant-loop-count
invariant-loop-count l = record {
  same_nodes : length l.nodes ≡ length l.initial.nodes;
  same_bytes : length l.bytes ≡ length l.initial.bytes;
  so_far : SoFar l.text l.initial.nodes l.nodes l.bytes l.used l.count;
}

abbrev pub decreases-loop-count : goal.decreases-loop-count
decreases-loop-count l = length l.nodes - l.count
