use Rattle.std.proofs.Common.{◌≡◌, ◌≤◌, ◌-◌, length, map, take, drop}
use Rattle.sf_nodes.specs.NodeContents.{node_of}
use Rattle.sf_nodes.proofs.parts.write_parts.Given as goal

abbrev pub invariant-loop-count : goal.invariant-loop-count
invariant-loop-count l = record {
  within : l.count ≤ length l.parts;
  same : length l.nodes ≡ length l.initial.nodes;
  nodes : take l.count l.nodes ≡ map (node_of l.start) (take l.count l.parts);
  others : drop l.count l.nodes ≡ drop l.count l.initial.nodes;
}

abbrev pub decreases-loop-count : goal.decreases-loop-count
decreases-loop-count l = length l.parts - l.count
