-- Languages made of others, and how their texts begin and end.
use Rattle.std.specs.Prelude.{◌≡◌, ℕ, Bool, true, false, List, [], ◌∷◌, ◌++◌, ◌⊎◌}
use Rattle.std.proofs.Common.{inl, inr}
use Rattle.sf_value.specs.Grammar.Lines.{Continues}
use Rattle.sf_scan.specs.Places.{is_after}

-- a text of L, and after it one of R
abbrev pub Then : {V W : Type 0} → (List ℕ → V → Type 0) → (List ℕ → W → Type 0) → List ℕ → V × W
    → Type 0
Then L R t v = (prefix suffix : List ℕ) × (t ≡ prefix ++ suffix) × L prefix v.0 × R suffix v.1

-- a text of L, or one of R
abbrev pub Either : {V W : Type 0} → (List ℕ → V → Type 0) → (List ℕ → W → Type 0) → List ℕ → V ⊎ W
    → Type 0
Either L R t (inl v) = L t v
Either L R t (inr w) = R t w

-- no text of L is followed by such a byte within a longer one: so where a text of L ends and such a
-- byte comes, L ends
abbrev pub Apart : {V : Type 0} → (List ℕ → V → Type 0) → (ℕ → Bool) → Type 0
Apart {V = V} L F = (a : List ℕ) (v : V) (b : ℕ) → L a v → F b ≡ true → Continues L (a ++ b ∷ []) → ⊥

-- the text has a first byte, and this can't come after an Item
abbrev pub Begun : List ℕ → Type 0
Begun [] = ⊥
Begun (b ∷ t) = is_after b ≡ false
