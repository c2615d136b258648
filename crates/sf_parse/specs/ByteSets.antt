-- Sets of bytes below 128. A set is a number: byte b is in it if bit b is set. It is listed by its
-- runs.
use Rattle.std.specs.Prelude.{◌≡◌, ℕ, zero, suc, ◌+◌, ◌/◌, ◌%◌, ◌<◌, ◌≤◌, ◌⊎◌, ◌↔◌, Bool, true}
use Rattle.std.specs.Prelude.{◌==◌, if◌then◌else◌, List, [], ◌∷◌, ⊤, false}
use Rattle.std.specs.Int.{bit_at}
use Rattle.sf_value.specs.Grammar.DisplayStrings.{hex}

-- the two lower-case hexadecimal digits of a byte
abbrev pub hex_byte : ℕ → List ℕ
hex_byte b = hex (b / 16) ∷ hex (b % 16) ∷ []

-- the byte is in the set
abbrev pub is_in : ℕ → ℕ → Bool
is_in set b = bit_at set b == 1

-- no byte from b on and below c is in the set
abbrev pub HasNone : ℕ → ℕ → ℕ → Type 0
HasNone set b c = (k : ℕ) → b ≤ k → k < c → is_in set k ≡ false

-- a byte before runs of higher bytes: it joins the first run if that begins one above
abbrev pub runs_with : ℕ → List (ℕ × ℕ) → List (ℕ × ℕ)
runs_with b [] = (b, b) ∷ []
runs_with b (run ∷ runs) = if run.0 == suc b then (b, run.1) ∷ runs else (b, b) ∷ run ∷ runs

-- the runs of the n bytes from b on that are in the set, each as its first and its last byte
unfoldable pub runs_from : ℕ → ℕ → ℕ → List (ℕ × ℕ)
runs_from set b zero = []
runs_from set b (suc n) =
    if is_in set b then runs_with b (runs_from set (suc b) n) else runs_from set (suc b) n

-- the runs of a set of bytes below 128
abbrev pub runs_of : ℕ → List (ℕ × ℕ)
runs_of set = runs_from set 0 128

-- a byte is within one of the runs
abbrev pub IsWithin : ℕ → List (ℕ × ℕ) → Type 0
IsWithin b [] = ⊥
IsWithin b (run ∷ runs) = ((run.0 ≤ b) × (b ≤ run.1)) ⊎ IsWithin b runs

-- the runs begin at this byte or above, and ascend, with a byte between each two that is in neither
abbrev pub Ascends : ℕ → List (ℕ × ℕ) → Type 0
Ascends from [] = ⊤
Ascends from (run ∷ runs) = (from ≤ run.0) × (run.0 ≤ run.1) × Ascends (run.1 + 2) runs

-- the bytes of a set below 128 are exactly those within its runs
abbrev pub RunsAreTheSet : Type 0
RunsAreTheSet =
    (set b : ℕ) → ((b < 128) × (is_in set b ≡ true)) ↔ IsWithin b (runs_of set)

-- the runs of a set are as long as possible
abbrev pub RunsAreWhole : Type 0
RunsAreWhole = (set : ℕ) → Ascends 0 (runs_of set)
