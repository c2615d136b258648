-- The state of the machine for what is read of an item.
use Rattle.std.specs.Prelude.{◌≡◌, ℕ, Bool, true, false, Option, Some, None, IsSome, ⊤}
use Rattle.sf_value.specs.declared.dialect.Dialect.{Dialect}
use Rattle.sf_value.specs.declared.value.Bare.{Bare}
use Rattle.sf_parse.specs.Machine.Bares.{BareState, bare_step, bare_finish}
use Rattle.sf_parse.specs.Machine.Params.{ParamsState, params_step}
use Rattle.sf_parse.specs.Machine.Items.{ItemState, InBare, InParams}

-- in the parameters of the bare item, or still in the bare item if it may not end
abbrev pub with_params : Option Bare → BareState → ParamsState → ItemState
with_params (Some x) s ps = InParams x ps
with_params None s ps = InBare s

-- the flag says whether parameters are open, or the bare item
abbrev pub item_of : Bool → BareState → ParamsState → ItemState
item_of true s ps = with_params (bare_finish s) s ps
item_of false s ps = InBare s

-- if parameters are open, the bare item may end
abbrev pub FitsItem : Bool → BareState → Type 0
FitsItem true s = IsSome (bare_finish s)
FitsItem false s = ⊤

-- the part that is open can't continue with this byte
abbrev pub item_stuck : Dialect → ItemState → ℕ → Type 0
item_stuck d (InBare s) b = bare_step s b ≡ None
item_stuck d (InParams x s) b = params_step d s b ≡ None
