-- Whether a state of a field takes a byte, and whether the text may end there.
use Rattle.std.specs.Prelude.{ℕ, Bool, is_some}
use Rattle.sf_value.specs.declared.dialect.Dialect.{Dialect}
use Rattle.sf_parse.specs.Machine.States.{State}
use Rattle.sf_parse.specs.Machine.Fields.{step, finish}

abbrev pub takes : Dialect → State → ℕ → Bool
takes d s b = is_some (step d s b)

abbrev pub may_end : State → Bool
may_end s = is_some (finish s)
