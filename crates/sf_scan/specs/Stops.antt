-- Where reading a text stops, told by the texts of the grammar alone. L is a language: it relates
-- texts and the values that they spell.
use Rattle.std.specs.Prelude.{◌≡◌, ℕ, Bool, true, List, [], ◌∷◌, ◌++◌}
use Rattle.sf_value.specs.Grammar.Lines.{Continues}
use Rattle.sf_value.specs.Runs.{Lacks}

-- the texts of L after these first bytes
abbrev pub Past : {V : Type 0} → List ℕ → (List ℕ → V → Type 0) → List ℕ → V → Type 0
Past p L t v = L (p ++ t) v

-- some text of L begins with the prefix p, and the bytes that come next in such texts are exactly
-- those that pass the test
pub record IsFollowed {V : Type 0} (L : List ℕ → V → Type 0) (next : ℕ → Bool) (p : List ℕ)
    : Type 0 where
  pub viable : Continues L p
  pub may : (b : ℕ) → next b ≡ true → Continues L (p ++ b ∷ [])
  pub only : (b : ℕ) → Continues L (p ++ b ∷ []) → next b ≡ true

-- the bytes of the text before what is left are a prefix of a text of L, and the first byte that is
-- left can't come next
pub record Stops {V : Type 0} (L : List ℕ → V → Type 0) (next : ℕ → Bool) (text left : List ℕ)
    : Type 0 where
  pub prefix : List ℕ
  pub split : text ≡ prefix ++ left
  pub followed : IsFollowed L next prefix
  pub blocked : Lacks next left

-- the bytes before what is left spell the value, and no longer prefix of the text begins a text of L
pub record Reads {V : Type 0} (L : List ℕ → V → Type 0) (next : ℕ → Bool) (text : List ℕ) (v : V)
    (left : List ℕ) : Type 0 where
  pub stops : Stops L next text left
  pub spelled : L (stops.prefix) v

-- the bytes before what is left spell nothing, and no longer prefix of the text begins a text of L:
-- so no text of L begins this text
pub record Refuses {V : Type 0} (L : List ℕ → V → Type 0) (next : ℕ → Bool) (text left : List ℕ)
    : Type 0 where
  pub stops : Stops L next text left
  pub unspelled : (v : V) → L (stops.prefix) v → ⊥
