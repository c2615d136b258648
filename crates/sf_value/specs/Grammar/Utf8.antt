-- Well-formed UTF-8 by its table (RFC 3629 section 4).
use Rattle.std.specs.Option.{option_or}
use Rattle.std.specs.Prelude.{◌≡◌, ℕ, zero, suc, Bool, nat_le, ◌&&◌, List, [], ◌∷◌, Option, Some}
use Rattle.std.specs.Prelude.{None}
use Rattle.sf_value.specs.Grammar.Words.{allow}

-- between two characters, or within one: the next byte is from low to high, and `more` bytes follow
-- it
pub data Utf8 : Type 0 where
  Start : Utf8
  Within : (more low high : ℕ) → Utf8

-- the state if n more bytes complete the character
abbrev pub followed_by : ℕ → Utf8
followed_by zero = Start
followed_by (suc n) = Within n 128 191

-- from low to high
abbrev pub within : ℕ → ℕ → ℕ → Bool
within low high b = nat_le low b && nat_le b high

-- the well-formed first bytes, from and to, and the state after them
abbrev pub rows : List (ℕ × ℕ × Utf8)
rows =
    (0, 127, Start)
    ∷ (194, 223, Within 0 128 191)
    ∷ (224, 224, Within 1 160 191)
    ∷ (225, 236, Within 1 128 191)
    ∷ (237, 237, Within 1 128 159)
    ∷ (238, 239, Within 1 128 191)
    ∷ (240, 240, Within 2 144 191)
    ∷ (241, 243, Within 2 128 191)
    ∷ (244, 244, Within 2 128 143)
    ∷ []

-- the state in the first row whose range has the byte
abbrev pub look_up : List (ℕ × ℕ × Utf8) → ℕ → Option Utf8
look_up [] b = None
look_up (r ∷ rs) b = option_or (allow (within r.0 r.1 b) r.2) (look_up rs b)

-- the state after one more byte
abbrev pub utf8_step : Utf8 → ℕ → Option Utf8
utf8_step Start b = look_up rows b
utf8_step (Within n low high) b = allow (within low high b) (followed_by n)

-- the bytes complete the character, and whole characters follow
abbrev pub WellFormed : Utf8 → List ℕ → Type 0
WellFormed Start [] = Unit {0}
WellFormed (Within n low high) [] = ⊥
WellFormed x (b ∷ s) = (y : Utf8) × (utf8_step x b ≡ Some y) × WellFormed y s
