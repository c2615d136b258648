use Rattle.std.proofs.Common.{◌≡◌, true, take}
use Rattle.sf_value.specs.Grammar.Words.{Each}
use Rattle.sf_nodes.specs.NodeBytes.{IsDecoded}
use Rattle.sf_c.proofs.decoding.none_coded.Given as goal

abbrev pub invariant-loop-node : goal.invariant-loop-node
invariant-loop-node l = l.none ≡ true → Each IsDecoded (take l.node-index l.nodes)
