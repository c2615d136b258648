-- The machine that reads members of Lists and Dictionaries.
use Rattle.std.specs.Option.{option_map, option_or}
use Rattle.std.specs.Prelude.{ℕ, ◌==◌, List, [], Option}
use Rattle.sf_value.specs.Ascii.{open_bracket}
use Rattle.sf_value.specs.declared.dialect.Dialect.{Dialect}
use Rattle.sf_value.specs.declared.value.Member.{Member}
use Rattle.sf_value.specs.declared.value.Member.TheVariants as member
use Rattle.sf_value.specs.Grammar.Words.{allow}
use Rattle.sf_parse.specs.Machine.Language.{MapValues}
use Rattle.sf_parse.specs.Machine.Items.{ItemState, ResidualItem, GoodItem, item_start, item_step}
use Rattle.sf_parse.specs.Machine.Items.{item_finish}
use Rattle.sf_parse.specs.Machine.Inners.{InnerState, BetweenItems, ResidualInner, GoodInner, inner_step}
use Rattle.sf_parse.specs.Machine.Inners.{inner_finish}

-- what was read of a member: of an item or of an inner list
pub data MemberState : Type 0 where
  InOne : (state : ItemState) → MemberState
  InMany : (state : InnerState) → MemberState

abbrev pub ResidualMember : Dialect → MemberState → List ℕ → Member → Type 0
ResidualMember d (InOne s) = MapValues member.Item (ResidualItem d s)
ResidualMember d (InMany s) = MapValues member.Inner (ResidualInner d s)

abbrev pub GoodMember : MemberState → Type 0
GoodMember (InOne s) = GoodItem s
GoodMember (InMany s) = GoodInner s

abbrev pub member_start : Dialect → ℕ → Option MemberState
member_start d b = option_or (option_map InOne (item_start d b))
    (option_map InMany (allow (b == open_bracket) (BetweenItems [])))

abbrev pub member_step : Dialect → MemberState → ℕ → Option MemberState
member_step d (InOne s) b = option_map InOne (item_step d s b)
member_step d (InMany s) b = option_map InMany (inner_step d s b)

abbrev pub member_finish : MemberState → Option Member
member_finish (InOne s) = option_map member.Item (item_finish s)
member_finish (InMany s) = option_map member.Inner (inner_finish s)
