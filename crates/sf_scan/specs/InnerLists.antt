-- Inner Lists, as sf_value's grammar defines them, with the Items of any language I and the parameters
-- of any language R.
use Rattle.std.specs.Prelude.{⊤, ◌≡◌, ℕ, Bool, false, List, [], ◌∷◌, ◌++◌, ◌≤◌, length, ◌==◌}
use Rattle.std.specs.Prelude.{◌||◌, ◌&&◌, Result, Ok, Err}
use Rattle.std.specs.Borrow.{Bor}
use Rattle.sf_value.specs.declared.dialect.Dialect.{Dialect}
use Rattle.sf_value.specs.declared.value.Bare.{Bare}
use Rattle.sf_value.specs.Ascii.{open_bracket, close_bracket}
use Rattle.sf_value.specs.Grammar.Classes.{is_sp}
use Rattle.sf_value.specs.Grammar.Pairs.{Pairs}
use Rattle.sf_value.specs.Grammar.Words.{Every}
use Rattle.sf_scan.specs.Items.{RawItem, SpellsRawItem, made_item, in_item, ends_item}
use Rattle.sf_scan.specs.Lifts.{Lifts}
use Rattle.sf_scan.specs.Makers.{made_of}
use Rattle.sf_scan.specs.Outcomes.{Rejects}
use Rattle.sf_value.specs.Grammar.Parameters.{SpellsRaw}
use Rattle.sf_scan.specs.Places.{in_bare, in_params, ends_params}
use Rattle.sf_scan.specs.declared.place.BarePlace.TheVariants as bare_place
use Rattle.sf_scan.specs.declared.place.Halt.{Halt}
use Rattle.sf_scan.specs.declared.place.Halt.TheVariants as halt
use Rattle.sf_scan.specs.declared.inner.InnerPlace.{InnerPlace}
use Rattle.sf_scan.specs.declared.inner.InnerPlace.TheVariants as place

-- Items with spaces before each, at least this many before the first and one before each other, and
-- spaces at the end
abbrev pub SpellsItemsBy : {X : Type 0} → (List ℕ → X → Type 0) → ℕ → List ℕ → List X → Type 0
SpellsItemsBy I least t [] = Every is_sp t
SpellsItemsBy I least t (i ∷ is) =
    (gap prefix suffix : List ℕ)
    × (t ≡ gap ++ (prefix ++ suffix))
    × Every is_sp gap
    × (least ≤ length gap)
    × I prefix i
    × SpellsItemsBy I 1 suffix is

-- the rest of an Inner List: Items, a bracket, parameters
abbrev pub SpellsRestBy : {X W : Type 0} → (List ℕ → X → Type 0) → (List ℕ → W → Type 0) → ℕ
    → List ℕ → List X × W → Type 0
SpellsRestBy I R least t v =
    (body suffix : List ℕ)
    × (t ≡ body ++ close_bracket ∷ suffix)
    × SpellsItemsBy I least body v.0
    × R suffix v.1

-- an Inner List: a bracket and this rest
abbrev pub SpellsInnerBy : {X W : Type 0} → (List ℕ → X → Type 0) → (List ℕ → W → Type 0)
    → List ℕ → List X × W → Type 0
SpellsInnerBy I R t v =
    (body suffix : List ℕ)
    × (t ≡ open_bracket ∷ (body ++ close_bracket ∷ suffix))
    × SpellsItemsBy I 0 body v.0
    × R suffix v.1

-- an Inner List, with parameters as they stand
abbrev pub RawInner : Type 0
RawInner = List RawItem × Pairs Bare

abbrev pub SpellsRawRest : Dialect → List ℕ → RawInner → Type 0
SpellsRawRest d = SpellsRestBy (SpellsRawItem d) (SpellsRaw d) 0

abbrev pub SpellsRawInner : Dialect → List ℕ → RawInner → Type 0
SpellsRawInner d = SpellsInnerBy (SpellsRawItem d) (SpellsRaw d)

-- what is made of Items, and of the rest of an Inner List
abbrev pub made_items : {M : Type 0} → (M → Bare → M) → (M → List ℕ → Bare → M) → M
    → List RawItem → M
made_items bare with m [] = m
made_items bare with m (i ∷ is) = made_items bare with (made_item bare with m i) is

abbrev pub made_rest : {M : Type 0} → (M → Bare → M) → (M → List ℕ → Bare → M) → (M → M) → M
    → RawInner → M
made_rest bare with closed m v = made_of with (closed (made_items bare with m v.0)) v.1

-- the bytes that may come at a place in an Inner List, as part of it
abbrev pub in_inner : Dialect → InnerPlace → ℕ → Bool
in_inner d place.Open b = in_bare d bare_place.Start b || (is_sp b || b == close_bracket)
in_inner d (place.InItem p) b = in_item d p b || (ends_item p && (is_sp b || b == close_bracket))
in_inner d (place.InParams p) b = in_params d p b

-- whether the Inner List may end there
abbrev pub ends_inner : InnerPlace → Bool
ends_inner place.Open = false
ends_inner (place.InItem p) = false
ends_inner (place.InParams p) = ends_params p

-- the Items and the closing bracket have been read: whatever is read of the parameters after it is
-- read of the rest of the Inner List
pub record PastItems {M : Type 0} (bare : M → Bare → M) (with : M → List ℕ → Bare → M)
    (closed : M → M) (d : Dialect) (text after : List ℕ) (old new : M)
    : Type 0 where
  pub into : Pairs Bare → RawInner
  pub lifts : Lifts (SpellsRaw d) after (SpellsRawRest d) text into
  pub made : (raw : Pairs Bare) → made_of with (closed new) raw ≡ made_rest bare with closed old (into raw)

-- what reading the Items up to their closing bracket returns
abbrev pub ScansItems : {M F : Type 0} → (M → Bare → M) → (M → List ℕ → Bare → M) → (M → M)
    → Dialect → List ℕ → M → M → Result (Bor (List ℕ)) (Halt InnerPlace F)
    → Type 0
ScansItems bare with closed d text old new (Ok after) =
    PastItems bare with closed d text after.now old new
ScansItems bare with closed d text old new (Err (halt.Refused stop)) =
    Rejects (SpellsRawRest d) (in_inner d) ends_inner text stop
ScansItems bare with closed d text old new (Err (halt.Fault fault)) = ⊤
