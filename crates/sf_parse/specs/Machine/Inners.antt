-- The machine that reads Inner Lists.
use Rattle.std.specs.Option.{option_map, option_or}
use Rattle.std.specs.Prelude.{◌≡◌, ℕ, ◌==◌, List, [], ◌∷◌, ◌++◌, Option, None}
use Rattle.sf_value.specs.Ascii.{space, close_bracket}
use Rattle.sf_value.specs.Grammar.Words.{allow}
use Rattle.sf_value.specs.Grammar.Classes.{is_sp}
use Rattle.sf_value.specs.Grammar.Pairs.{Pairs, Pairs}
use Rattle.sf_value.specs.Grammar.Parameters.{SpellsParams}
use Rattle.sf_value.specs.Grammar.InnerLists.{inner, SpellsItems}
use Rattle.sf_value.specs.declared.dialect.Dialect.{Dialect}
use Rattle.sf_value.specs.declared.value.Bare.{Bare}
use Rattle.sf_value.specs.declared.value.Item.{Item}
use Rattle.sf_value.specs.declared.value.Inner.{Inner}
use Rattle.sf_parse.specs.Machine.Language.{Then, MapValues, onward}
use Rattle.sf_parse.specs.Machine.Params.{ParamsState, Between, ResidualParams, GoodParams}
use Rattle.sf_parse.specs.Machine.Params.{params_step}
use Rattle.sf_parse.specs.Machine.Params.{params_finish}
use Rattle.sf_parse.specs.Machine.Items.{ItemState}
use Rattle.sf_parse.specs.Machine.Items.{ResidualItem, GoodItem, item_start, item_step, item_finish}

pub data InnerState : Type 0 where
  -- after the bracket or spaces
  BetweenItems : (items : List Item) → InnerState
  InItem : (items : List Item) (state : ItemState) → InnerState
  -- after the closing bracket
  Closing : (items : List Item) (state : ParamsState) → InnerState

-- further items, a bracket and parameters
abbrev pub MoreItems : Dialect → ℕ → List Item → List ℕ → Inner → Type 0
MoreItems d least is u v = (more : List Item) × (ps : Pairs Bare) × (body suffix : List ℕ)
    × (u ≡ body ++ close_bracket ∷ suffix) × SpellsItems d least body more
    × SpellsParams d suffix ps
    × (v ≡ inner (is ++ more) ps)

abbrev pub ResidualInner : Dialect → InnerState → List ℕ → Inner → Type 0
ResidualInner d (BetweenItems is) = MoreItems d 0 is
ResidualInner d (InItem is s) = Then (ResidualItem d s) (λ i. MoreItems d 1 (is ++ i ∷ []))
ResidualInner d (Closing is s) = MapValues (inner is) (ResidualParams d s)

abbrev pub GoodInner : InnerState → Type 0
GoodInner (BetweenItems is) = Unit {0}
GoodInner (InItem is s) = GoodItem s
GoodInner (Closing is s) = GoodParams s

abbrev pub after_step : List Item → ℕ → Option InnerState
after_step is b = option_or (allow (b == space) (BetweenItems is))
    (allow (b == close_bracket) (Closing is (Between [])))

abbrev pub inner_step : Dialect → InnerState → ℕ → Option InnerState
inner_step d (BetweenItems is) b = option_or (allow (is_sp b) (BetweenItems is))
    (option_or (allow (b == close_bracket) (Closing is (Between [])))
    (option_map (InItem is) (item_start d b)))
inner_step d (InItem is s) b = onward (InItem is) (item_step d s b) (item_finish s)
    (λ i. after_step (is
    ++ i ∷ []) b)
inner_step d (Closing is s) b = option_map (Closing is) (params_step d s b)

abbrev pub inner_finish : InnerState → Option Inner
inner_finish (BetweenItems is) = None
inner_finish (InItem is s) = None
inner_finish (Closing is s) = option_map (inner is) (params_finish s)
