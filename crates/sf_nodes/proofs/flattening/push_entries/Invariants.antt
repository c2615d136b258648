use Rattle.std.proofs.Common.{◌≡◌, ◌++◌}
use Rattle.sf_nodes.specs.Nodes.{entries_content}
use Rattle.sf_nodes.proofs.flattening.push_entries.Given as goal

abbrev pub invariant-loop-key : goal.invariant-loop-key
invariant-loop-key l =
    l.flat ++ entries_content l.key-iterator ≡ l.fn.flat ++ entries_content l.entries
