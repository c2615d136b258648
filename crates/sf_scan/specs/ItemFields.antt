-- Whole fields of one Item, as sf_value's grammar defines them, with repeated keys.
use Rattle.std.specs.Prelude.{◌≡◌, ℕ, Bool, true, false, List, ◌++◌, ◌||◌, ◌&&◌}
use Rattle.sf_value.specs.declared.dialect.Dialect.{Dialect}
use Rattle.sf_value.specs.Grammar.Classes.{is_sp}
use Rattle.sf_value.specs.Grammar.Words.{Every}
use Rattle.sf_scan.specs.Items.{RawItem, SpellsRawItem, in_item, ends_item}
use Rattle.sf_scan.specs.Places.{in_bare}
use Rattle.sf_scan.specs.declared.place.BarePlace.TheVariants as bare_place
use Rattle.sf_scan.specs.declared.field.FieldPlace.{FieldPlace}
use Rattle.sf_scan.specs.declared.field.FieldPlace.TheVariants as place

-- SP, a text of I, SP
abbrev pub SpellsSpaced : {X : Type 0} → (List ℕ → X → Type 0) → List ℕ → X → Type 0
SpellsSpaced I t x =
    (gap body tail : List ℕ)
    × (t ≡ gap ++ (body ++ tail))
    × Every is_sp gap
    × I body x
    × Every is_sp tail

abbrev pub SpellsRawField : Dialect → List ℕ → RawItem → Type 0
SpellsRawField d = SpellsSpaced (SpellsRawItem d)

-- the bytes that may come at a place in the field, as part of it
abbrev pub in_field : Dialect → FieldPlace → ℕ → Bool
in_field d place.Start b = in_bare d bare_place.Start b || is_sp b
in_field d (place.InItem p) b = in_item d p b || (ends_item p && is_sp b)
in_field d place.Spaces b = is_sp b

-- whether the field may end there
abbrev pub ends_field : FieldPlace → Bool
ends_field place.Start = false
ends_field (place.InItem p) = ends_item p
ends_field place.Spaces = true
