use Rattle.std.proofs.Common.{◌≡◌, ◌++◌}
use Rattle.sf_nodes.specs.Nodes.{params_content}
use Rattle.sf_nodes.proofs.flattening.push_params.Given as goal

abbrev pub invariant-loop-key : goal.invariant-loop-key
invariant-loop-key l =
    l.flat ++ params_content l.role l.key-iterator ≡ l.fn.flat ++ params_content l.role l.params
