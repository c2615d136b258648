-- Members that are read from a text one after another.
use Rattle.std.specs.Prelude.{◌≡◌, ℕ, suc, length, ℤ, Bool, List, [], ◌∷◌, ◌++◌, Option, Some, None}
use Rattle.std.specs.Option.{option_copied}
use Rattle.sf_value.specs.Ascii.{comma}
use Rattle.sf_value.specs.declared.value.Member.{Member}
use Rattle.sf_value.specs.declared.value.Member.TheVariants as member
use Rattle.sf_value.specs.Lookups.{as_boolean, as_integer}
use Rattle.sf_value.specs.Grammar.Words.{Every}
use Rattle.sf_value.specs.Grammar.Classes.{is_sp, is_ows}
use Rattle.sf_value.specs.Grammar.Pairs.{Pairs}
use Rattle.sf_value.specs.Grammar.Series.{SpellsSeries}
use Rattle.sf_value.specs.Grammar.Fields.{SpellsEntry}
use Rattle.sf_view.specs.declared.cursor.DictCursor.{DictCursor}
use Rattle.sf_view.specs.declared.cursor.EntryView.{EntryView}
use Rattle.sf_value.specs.Runs.{Skips}
use Rattle.sf_view.specs.Reads.{ShowsMember}

-- the text from the first member on, after spaces; none if there are only spaces
abbrev pub IsFirst : List ℕ → Option (List ℕ) → Type 0
IsFirst text None = Every is_sp text
IsFirst text (Some rest) = Skips is_sp text rest

-- the rest is after OWS, a comma and OWS
pub record Separates (text rest : List ℕ) : Type 0 where
  pub before : List ℕ
  pub behind : List ℕ
  pub split : text ≡ before ++ comma ∷ (behind ++ rest)
  pub ows_before : Every is_ows before
  pub ows_after : Every is_ows behind

-- the text from the next member on; none if there is only OWS
abbrev pub IsNext : List ℕ → Option (List ℕ) → Type 0
IsNext text None = Every is_ows text
IsNext text (Some rest) = Separates text rest

-- these members remain, each spelled as P says: none after the last; otherwise the rest is a series
-- of them and OWS
abbrev pub Remains : {X : Type 0} → (List ℕ → X → Type 0) → Option (List ℕ) → List X → Type 0
Remains P None xs = xs ≡ []
Remains P (Some rest) [] = ⊥
Remains P (Some rest) (x ∷ xs) =
    (body tail : List ℕ)
    × (rest ≡ body ++ tail)
    × SpellsSeries P body (x ∷ xs)
    × Every is_ows tail

-- how much remains: 0 after the last member, otherwise one more than the bytes of the rest
abbrev pub left_in : Option (List ℕ) → ℕ
left_in None = 0
left_in (Some rest) = suc (length rest)

-- these members of a Dictionary remain
abbrev pub RemainsInDict : DictCursor → Pairs Member → Type 0
RemainsInDict c ps = Remains (SpellsEntry c.dialect) (option_copied c.rest) ps

-- a member with this key and this bare item comes before those that remain; or none remain
abbrev pub ReadsNextEntry : DictCursor → DictCursor → Option EntryView → Type 0
ReadsNextEntry old new None = RemainsInDict old []
ReadsNextEntry old new (Some e) =
    (m : Member)
    × ShowsMember old.dialect e.bare m
    × ((ps : Pairs Member) → RemainsInDict new ps → RemainsInDict old ((e.key.now, m) ∷ ps))

-- the Integer of a member that is an Item with one
abbrev pub integer_in : Member → Option ℤ
integer_in (member.Item i) = as_integer i.bare
integer_in (member.Inner l) = None

-- the Boolean of a member that is an Item with one
abbrev pub boolean_in : Member → Option Bool
boolean_in (member.Item i) = as_boolean i.bare
boolean_in (member.Inner l) = None
