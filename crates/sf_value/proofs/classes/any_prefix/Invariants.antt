use Rattle.std.proofs.Common.{take, ◌-◌, ◌≤◌}
use Rattle.sf_value.specs.Grammar.Words.{Every}
use Rattle.sf_value.proofs.classes.any_prefix.Given as goal

abbrev pub invariant-loop-run : goal.invariant-loop-run
invariant-loop-run g l = record {
  within : l.run ≤ l.near;
  every : Every g.C.ByteClass.test (take l.run l.text);
}

abbrev pub decreases-loop-run : goal.decreases-loop-run
decreases-loop-run g l = l.near - l.run
