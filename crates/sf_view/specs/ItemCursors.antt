-- Items of a List and their parameters that are read from a text one after another.
use Rattle.std.specs.Prelude.{◌≡◌, ℕ, List, [], ◌∷◌, ◌++◌, Option, Some, None}
use Rattle.std.specs.Option.{option_copied}
use Rattle.sf_value.specs.declared.value.Bare.{Bare}
use Rattle.sf_value.specs.declared.value.Member.{Member}
use Rattle.sf_value.specs.declared.value.Member.TheVariants as member
use Rattle.sf_value.specs.Grammar.Pairs.{Pairs, settle}
use Rattle.sf_value.specs.Grammar.Parameters.{SpellsRaw}
use Rattle.sf_value.specs.Grammar.Items.{item}
use Rattle.sf_value.specs.Grammar.InnerLists.{SpellsMember}
use Rattle.sf_view.specs.declared.item_cursor.ItemCursor.{ItemCursor}
use Rattle.sf_view.specs.declared.item_cursor.ItemView.{ItemView}
use Rattle.sf_view.specs.declared.item_cursor.ParamCursor.{ParamCursor}
use Rattle.sf_view.specs.declared.item_cursor.ParamView.{ParamView}
use Rattle.sf_view.specs.Views.{IsBorrowed}
use Rattle.sf_view.specs.Cursors.{IsNext, Remains}

-- these members of a List remain
abbrev pub RemainsInList : ItemCursor → List Member → Type 0
RemainsInList c ms = Remains (SpellsMember c.dialect) (option_copied c.rest) ms

-- these parameters of an Item remain, repeated keys included, and after them these members of its
-- List
pub record RemainsInItem (c : ParamCursor) (ps : Pairs Bare) (ms : List Member) : Type 0 where
  pub prefix : List ℕ
  pub after : List ℕ
  pub start : Option (List ℕ)
  pub split : c.rest.now ≡ prefix ++ after
  pub spelled : SpellsRaw c.dialect prefix ps
  pub next : IsNext after start
  pub remains : Remains (SpellsMember c.dialect) start ms

-- an Item with this bare item and the parameters that remain comes before the members that remain;
-- or none remain
abbrev pub ReadsNextItem : ItemCursor → Option ItemView → Type 0
ReadsNextItem c None = RemainsInList c []
ReadsNextItem c (Some i) =
    (x : Bare)
    × IsBorrowed c.dialect i.bare x
    × (i.params.dialect ≡ c.dialect)
    × ((ps : Pairs Bare) (ms : List Member) → RemainsInItem i.params ps ms
    → RemainsInList c (member.Item (item x (settle ps)) ∷ ms))

-- a parameter with this key and value comes before those that remain; or nothing was read
abbrev pub ReadsNextParam : ParamCursor → ParamCursor → Option ParamView → Type 0
ReadsNextParam old new None = new ≡ old
ReadsNextParam old new (Some p) =
    (x : Bare)
    × IsBorrowed old.dialect p.bare x
    × ((ps : Pairs Bare) (ms : List Member) → RemainsInItem new ps ms
    → RemainsInItem old ((p.key.now, x) ∷ ps) ms)
