use Rattle.std.proofs.Common.{◌≤◌, length}
use Rattle.sf_test_alloc.proofs.scarcity.Scarcity.take_all.Given as goal

abbrev pub invariant-loop : goal.invariant-loop
invariant-loop l = length l.initial.self-inside.blocks.items ≤ length l.self-inside.blocks.items
