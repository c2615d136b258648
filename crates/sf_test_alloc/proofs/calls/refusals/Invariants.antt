use Rattle.std.specs.List.{FoldsTo}
use Rattle.sf_test_alloc.specs.Calls.{right_then_refused}
use Rattle.sf_test_alloc.proofs.calls.refusals.Given as goal

abbrev pub invariant-loop-step : goal.invariant-loop-step
invariant-loop-step g l =
    goal.F-IsAlwaysCallable g l.call
    × FoldsTo (goal.F-step g) l.fn.call (right_then_refused l.step) l.call
