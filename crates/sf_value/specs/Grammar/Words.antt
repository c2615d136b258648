-- Definitions that the grammar is written with.
use Rattle.std.specs.Prelude.{◌≡◌, ℕ, Bool, true, false, List, [], ◌∷◌, Option, Some, None}

-- each byte passes the test
abbrev pub Every : (ℕ → Bool) → List ℕ → Type 0
Every p [] = Unit {0}
Every p (b ∷ t) = (p b ≡ true) × Every p t

-- a byte that passes the first test, then bytes that pass the second
abbrev pub IsWord : (ℕ → Bool) → (ℕ → Bool) → List ℕ → Type 0
IsWord p q [] = ⊥
IsWord p q (b ∷ t) = (p b ≡ true) × Every q t

-- P holds for each of a list
abbrev pub Each : {X : Type 0} → (X → Type 0) → List X → Type 0
Each P [] = Unit {0}
Each P (x ∷ xs) = P x × Each P xs

-- s if the test is true
abbrev pub allow : {S : Type 0} → Bool → S → Option S
allow true s = Some s
allow false s = None
