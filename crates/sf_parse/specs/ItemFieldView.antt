-- The state of the machine for what is read of a field of kind Item.
use Rattle.std.specs.Prelude.{◌≡◌, ℕ, Option, Some, None, IsSome, ⊤}
use Rattle.sf_value.specs.declared.dialect.Dialect.{Dialect}
use Rattle.sf_value.specs.declared.value.Item.{Item}
use Rattle.sf_parse.specs.Machine.Items.{ItemState, item_step}
use Rattle.sf_parse.specs.Machine.States.{State, BeforeItem, InsideItem, AfterItem, InList, InDict}
use Rattle.sf_parse.specs.declared.item_field.ItemFieldPhase.{ItemFieldPhase}
use Rattle.sf_parse.specs.declared.item_field.ItemFieldPhase.TheVariants as phase

-- the state among the spaces after an Item, or before one if there is none
abbrev pub after_of : Option Item → State
after_of (Some i) = AfterItem i
after_of None = BeforeItem

-- the phase says whether the Item is to come, open, or followed by spaces
abbrev pub item_field_of : ItemFieldPhase → ItemState → Option Item → State
item_field_of phase.Before s whole = BeforeItem
item_field_of phase.Inside s whole = InsideItem s
item_field_of phase.After s whole = after_of whole

-- among the spaces after the Item, the Item is whole
abbrev pub FitsItemField : ItemFieldPhase → Option Item → Type 0
FitsItemField phase.Before whole = ⊤
FitsItemField phase.Inside whole = ⊤
FitsItemField phase.After whole = IsSome whole

-- if the Item is open, it can't continue with this byte
abbrev pub item_field_stuck : Dialect → State → ℕ → Type 0
item_field_stuck d BeforeItem b = ⊤
item_field_stuck d (InsideItem s) b = item_step d s b ≡ None
item_field_stuck d (AfterItem i) b = ⊤
item_field_stuck d (InList s) b = ⊤
item_field_stuck d (InDict s) b = ⊤
