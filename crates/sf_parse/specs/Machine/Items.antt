-- The machine that reads Items.
use Rattle.std.specs.Option.{option_and_then, option_map}
use Rattle.std.specs.Prelude.{ℕ, List, [], Option, Some}
use Rattle.sf_value.specs.Grammar.Items.{item}
use Rattle.sf_value.specs.declared.dialect.Dialect.{Dialect}
use Rattle.sf_value.specs.declared.value.Bare.{Bare}
use Rattle.sf_value.specs.declared.value.Item.{Item}
use Rattle.sf_parse.specs.Machine.Language.{Then, MapValues, onward}
use Rattle.sf_parse.specs.Machine.Bares.{BareState, ResidualBare, GoodBare, bare_start, bare_step}
use Rattle.sf_parse.specs.Machine.Bares.{bare_finish}
use Rattle.sf_parse.specs.Machine.Params.{ParamsState, MoreParams, ResidualParams, GoodParams}
use Rattle.sf_parse.specs.Machine.Params.{between_step, params_step, params_finish}

-- what was read of an item: of its bare item, or of its parameters
pub data ItemState : Type 0 where
  InBare : (state : BareState) → ItemState
  InParams : (bare : Bare) (state : ParamsState) → ItemState

-- the item of a bare item and parameters after it
abbrev pub ItemOf : Dialect → Bare → List ℕ → Item → Type 0
ItemOf d x = MapValues (item x) (MoreParams d [])

abbrev pub ResidualItem : Dialect → ItemState → List ℕ → Item → Type 0
ResidualItem d (InBare s) = Then (ResidualBare s) (ItemOf d)
ResidualItem d (InParams x s) = MapValues (item x) (ResidualParams d s)

abbrev pub GoodItem : ItemState → Type 0
GoodItem (InBare s) = GoodBare s
GoodItem (InParams x s) = GoodParams s

abbrev pub item_start : Dialect → ℕ → Option ItemState
item_start d b = option_map InBare (bare_start d b)

abbrev pub item_step : Dialect → ItemState → ℕ → Option ItemState
item_step d (InBare s) b = onward InBare (bare_step s b) (bare_finish s)
    (λ x. option_map (InParams x) (between_step [] b))
item_step d (InParams x s) b = option_map (InParams x) (params_step d s b)

abbrev pub item_finish : ItemState → Option Item
item_finish (InBare s) = option_and_then (λ x. Some (item x [])) (bare_finish s)
item_finish (InParams x s) = option_map (item x) (params_finish s)
