-- Field lines, and what may still come after the prefix of a text.
use Rattle.std.specs.Prelude.{ℕ, ◌<◌, ◌≤◌, List, [], ◌∷◌, ◌++◌, length, take}
use Rattle.sf_value.specs.declared.dialect.Dialect.{Dialect}
use Rattle.sf_value.specs.declared.value.Field.{Field}
use Rattle.sf_value.specs.declared.value.Kind.{Kind}
use Rattle.sf_value.specs.Ascii.{space, comma}
use Rattle.sf_value.specs.Grammar.Fields.{SpellsField}

-- the lines in order with a comma and a space between two (4.2; RFC 9110 section 5.3)
abbrev pub join : List (List ℕ) → List ℕ
join [] = []
join (l ∷ []) = l
join (l ∷ m ∷ ls) = l ++ comma ∷ space ∷ join (m ∷ ls)

-- some continuation, an empty one included, makes this prefix a text of L
abbrev pub Continues : {V : Type 0} → (List ℕ → V → Type 0) → List ℕ → Type 0
Continues {V = V} L p = (u : List ℕ) × (v : V) × L (p ++ u) v

-- n is the length of the longest prefix of t that continues to a text of L
pub record IsLongest (V : Type 0) (L : List ℕ → V → Type 0) (t : List ℕ) (n : ℕ) : Type 0 where
  pub within : n ≤ length t
  pub viable : Continues L (take n t)
  pub longest : (m : ℕ) → m ≤ length t → Continues L (take m t) → m ≤ n

-- some text of the kind begins with this one
abbrev pub Viable : Dialect → Kind → List ℕ → Type 0
Viable d kind = Continues (SpellsField d kind)

-- the place of a refusal: the length of the longest viable prefix of t
abbrev pub IsPlace : Dialect → Kind → List ℕ → ℕ → Type 0
IsPlace d kind = IsLongest Field (SpellsField d kind)

-- a byte that may come next; none above 127 is in a text
abbrev pub Next : Dialect → Kind → List ℕ → ℕ → Type 0
Next d kind p b = (b < 128) × Viable d kind (p ++ b ∷ [])
