use Rattle.std.proofs.Common.{◌≡◌}
use Rattle.sf_value.specs.Lending.{lent_entries, values_left}
use Rattle.sf_test_examples.proofs.values.change_all.Given as goal

-- what is changed in turn is changed in the same entries
abbrev pub invariant-loop-value : goal.invariant-loop-value
invariant-loop-value l =
    (lent_entries l.values).ghost_name ≡ (lent_entries l.initial.values).ghost_name

abbrev pub decreases-loop-value : goal.decreases-loop-value
decreases-loop-value l = values_left l.values
