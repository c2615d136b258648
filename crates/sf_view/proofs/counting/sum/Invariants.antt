use Rattle.std.proofs.Common.{◌≡◌, ◌+◌}
use Rattle.sf_view.specs.Counting.{sum_nodes, sum_bytes}
use Rattle.sf_view.proofs.counting.sum.Given as goal

abbrev pub invariant-loop-key : goal.invariant-loop-key
invariant-loop-key l = record {
  nodes : l.counts.nodes + sum_nodes l.key-iterator ≡ sum_nodes l.kept;
  bytes : l.counts.bytes + sum_bytes l.key-iterator ≡ sum_bytes l.kept;
}
