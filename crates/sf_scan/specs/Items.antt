-- Items, as sf_value's grammar defines them, with repeated keys.
use Rattle.std.specs.Prelude.{ℕ, Bool, List, ◌==◌, ◌||◌, ◌&&◌}
use Rattle.sf_value.specs.declared.dialect.Dialect.{Dialect}
use Rattle.sf_value.specs.declared.value.Bare.{Bare}
use Rattle.sf_value.specs.Ascii.{semicolon}
use Rattle.sf_value.specs.Grammar.BareItems.{SpellsBare}
use Rattle.sf_value.specs.Grammar.Pairs.{Pairs}
use Rattle.sf_scan.specs.Languages.{Then}
use Rattle.sf_scan.specs.Makers.{made_of}
use Rattle.sf_value.specs.Grammar.Parameters.{SpellsRaw}
use Rattle.sf_scan.specs.Places.{in_bare, ends_bare, in_params, ends_params}
use Rattle.sf_scan.specs.declared.item.ItemPlace.{ItemPlace}
use Rattle.sf_scan.specs.declared.item.ItemPlace.TheVariants as place

-- an Item and its parameters as they stand
abbrev pub RawItem : Type 0
RawItem = Bare × Pairs Bare

-- its bare item, then its parameters
abbrev pub SpellsRawItem : Dialect → List ℕ → RawItem → Type 0
SpellsRawItem d = Then (SpellsBare d) (SpellsRaw d)

-- what is made of it
abbrev pub made_item : {M : Type 0} → (M → Bare → M) → (M → List ℕ → Bare → M) → M → RawItem → M
made_item bare with m v = made_of with (bare m v.0) v.1

-- the bytes that may come at a place in an Item, as part of it
abbrev pub in_item : Dialect → ItemPlace → ℕ → Bool
in_item d (place.InBare p) b = in_bare d p b || (ends_bare p && b == semicolon)
in_item d (place.InParams p) b = in_params d p b

-- whether the Item may end there
abbrev pub ends_item : ItemPlace → Bool
ends_item (place.InBare p) = ends_bare p
ends_item (place.InParams p) = ends_params p
