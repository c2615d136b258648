use Rattle.std.proofs.Common.{◌≤◌}
use Rattle.sf_test_alloc.proofs.scarcity.Scarcity.take_everything.Given as goal

abbrev pub invariant-loop-power : goal.invariant-loop-power
invariant-loop-power l = l.fn.self ≤ l.self

abbrev pub invariant-loop-i : goal.invariant-loop-i
invariant-loop-i l = l.fn.self ≤ l.self
