-- The state of the machine for what is read of a member.
use Rattle.std.specs.Prelude.{◌≡◌, ℕ, List, None, ⊤}
use Rattle.sf_value.specs.declared.dialect.Dialect.{Dialect}
use Rattle.sf_value.specs.declared.value.Item.{Item}
use Rattle.sf_parse.specs.Machine.Params.{params_step}
use Rattle.sf_parse.specs.Machine.Items.{ItemState, InBare, InParams, item_step}
use Rattle.sf_parse.specs.Machine.Inners.{InnerState, BetweenItems, InItem, Closing}
use Rattle.sf_parse.specs.Machine.Members.{MemberState, InOne, InMany}
use Rattle.sf_parse.specs.declared.member.MemberPhase.{MemberPhase}
use Rattle.sf_parse.specs.declared.member.MemberPhase.TheVariants as phase

-- after the closing bracket, the reader of Items reads the parameters of the Inner List
abbrev pub closing_of : List Item → ItemState → InnerState
closing_of is (InBare s) = BetweenItems is
closing_of is (InParams x s) = Closing is s

-- the phase says whether the member is an Item, or which part of an Inner List is open
abbrev pub member_of : MemberPhase → ItemState → List Item → MemberState
member_of phase.One s is = InOne s
member_of phase.BetweenItems s is = InMany (BetweenItems is)
member_of phase.InItem s is = InMany (InItem is s)
member_of phase.Closing s is = InMany (closing_of is s)

-- parameters are open
abbrev pub IsInParams : ItemState → Type 0
IsInParams (InBare s) = ⊥
IsInParams (InParams x s) = ⊤

-- after the closing bracket, the reader of Items is in parameters
abbrev pub FitsMember : MemberPhase → ItemState → Type 0
FitsMember phase.One s = ⊤
FitsMember phase.BetweenItems s = ⊤
FitsMember phase.InItem s = ⊤
FitsMember phase.Closing s = IsInParams s

-- if a part of an Inner List is open, it can't continue with this byte
abbrev pub inner_stuck : Dialect → InnerState → ℕ → Type 0
inner_stuck d (BetweenItems is) b = ⊤
inner_stuck d (InItem is s) b = item_step d s b ≡ None
inner_stuck d (Closing is s) b = params_step d s b ≡ None

-- the part that is open can't continue with this byte
abbrev pub member_stuck : Dialect → MemberState → ℕ → Type 0
member_stuck d (InOne s) b = item_step d s b ≡ None
member_stuck d (InMany s) b = inner_stuck d s b
