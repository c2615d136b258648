-- What the steps are written with.
use Rattle.std.specs.Prelude.{ℕ, suc, Bool, true, false, ◌&&◌, ◌==◌, List, [], ◌∷◌, ◌++◌, Option}
use Rattle.std.specs.Prelude.{Some, None}

-- an algorithm that takes a prefix of its input: a value and the rest, or failure
abbrev pub Parse : Type 0 → Type 0
Parse V = List ℕ → Option (V × List ℕ)

-- go on with a result, or fail as it did: std's `option_and_then`, with the arguments in the order
-- of the RFC's steps
abbrev pub and_then : {A B : Type 0} → Option A → (A → Option B) → Option B
and_then (Some a) f = f a
and_then None f = None

-- s if the test holds, otherwise failure
abbrev pub only_if : {A : Type 0} → Bool → A → Option A
only_if true a = Some a
only_if false a = None

-- whether there is a first character and it passes the test
abbrev pub first_is : (ℕ → Bool) → List ℕ → Bool
first_is p [] = false
first_is p (c ∷ t) = p c

-- discard any leading characters that pass the test
abbrev pub discard : (ℕ → Bool) → List ℕ → List ℕ
discard p [] = []
discard p (c ∷ t) = elim (p c) [ true ↦ discard p t | false ↦ c ∷ t ]

-- what is before the first instance of the character, and what is from it on
abbrev pub before : ℕ → List ℕ → List ℕ
before x [] = []
before x (c ∷ t) = elim (c == x) [ true ↦ [] | false ↦ c ∷ before x t ]

abbrev pub from : ℕ → List ℕ → List ℕ
from x [] = []
from x (c ∷ t) = elim (c == x) [ true ↦ c ∷ t | false ↦ from x t ]

-- the place of the character in a list, counted from n
abbrev pub place_from : ℕ → List ℕ → ℕ → Option ℕ
place_from n [] c = None
place_from n (x ∷ xs) c = elim (x == c) [ true ↦ Some n | false ↦ place_from (suc n) xs c ]

-- whether two keys are equal, comparing character for character
abbrev pub same : List ℕ → List ℕ → Bool
same [] [] = true
same (a ∷ s) (b ∷ t) = a == b && same s t
same _ _ = false

-- whether an ordered map, given by its pairs, contains a key
abbrev pub contains : {V : Type 0} → List (List ℕ × V) → List ℕ → Bool
contains [] k = false
contains (p ∷ ps) k = elim (same p.0 k) [ true ↦ true | false ↦ contains ps k ]

-- the map with the key's value overwritten; the key stays in its place
abbrev pub overwrite : {V : Type 0} → List (List ℕ × V) → List ℕ → V → List (List ℕ × V)
overwrite [] k v = []
overwrite (p ∷ ps) k v = elim (same p.0 k) [
  | true ↦ (p.0, v) ∷ ps
  | false ↦ p ∷ overwrite ps k v
]

-- if the map already contains the key, overwrite its value; otherwise append the key with the value
abbrev pub set_key : {V : Type 0} → List (List ℕ × V) → List ℕ → V → List (List ℕ × V)
set_key ps k v = elim (contains ps k) [
  | true ↦ overwrite ps k v
  | false ↦ ps ++ (k, v) ∷ []
]
