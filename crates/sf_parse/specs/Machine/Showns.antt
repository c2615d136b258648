-- The machine that reads Display Strings.
use Rattle.std.specs.Option.{option_and_then, option_map}
use Rattle.std.specs.Prelude.{◌≡◌, ℕ, ◌+◌, ◌*◌, ◌/◌, ◌%◌, ◌<◌, ◌≤◌, Bool, true, ◌==◌, nat_lt}
use Rattle.std.specs.Prelude.{nat_le, ◌&&◌, ◌||◌, if◌then◌else◌, List, [], ◌∷◌, ◌++◌, Option, Some}
use Rattle.std.specs.Prelude.{None}
use Rattle.sf_value.specs.Ascii.{quote, percent}
use Rattle.sf_value.specs.Grammar.Words.{allow}
use Rattle.sf_value.specs.Grammar.Classes.{is_visible, is_byte}
use Rattle.sf_value.specs.Grammar.Utf8.{Utf8, Start, Within, utf8_step, WellFormed}
use Rattle.sf_value.specs.Digits.{unhex}
use Rattle.sf_value.specs.Grammar.DisplayStrings.{hex, EncodedBytes}

pub data ShownState : Type 0 where
  Quote : ShownState
  Unencoded : (bytes : List ℕ) (chars : Utf8) → ShownState
  Percent : (bytes : List ℕ) (chars : Utf8) → ShownState
  Hex : (bytes : List ℕ) (chars : Utf8) (high : ℕ) → ShownState
  Done : (bytes : List ℕ) → ShownState

abbrev pub ResidualUnencoded : List ℕ → Utf8 → List ℕ → List ℕ → Type 0
ResidualUnencoded bytes x u v = (s : List ℕ) × EncodedBytes u s × WellFormed x s × (v ≡ bytes ++ s)

-- after the digits of an escape for the byte c: the rest of the Display String
abbrev pub ResidualEscape : List ℕ → Utf8 → ℕ → List ℕ → List ℕ → Type 0
ResidualEscape bytes x c suffix v = (s : List ℕ) × (is_byte c ≡ true) × EncodedBytes suffix s
    × WellFormed x (c ∷ s) × (v ≡ bytes ++ c ∷ s)

abbrev pub ResidualShown : ShownState → List ℕ → List ℕ → Type 0
ResidualShown Quote u v = (suffix : List ℕ) × (u ≡ quote ∷ suffix)
    × ResidualUnencoded [] Start suffix v
ResidualShown (Unencoded bytes x) u v = ResidualUnencoded bytes x u v
ResidualShown (Percent bytes x) u v = (c : ℕ) × (suffix : List ℕ)
    × (u ≡ hex (c / 16) ∷ hex (c % 16) ∷ suffix) × ResidualEscape bytes x c suffix v
ResidualShown (Hex bytes x h) u v = (c : ℕ) × (suffix : List ℕ) × (h ≡ c / 16)
    × (u ≡ hex (c % 16) ∷ suffix)
    × ResidualEscape bytes x c suffix v
ResidualShown (Done bytes) u v = (u ≡ []) × (v ≡ bytes)

-- whether a byte with this high digit may come next in UTF-8
abbrev pub can_begin : Utf8 → ℕ → Bool
can_begin Start h = nat_lt h 8 || nat_le 12 h
can_begin (Within n low high) h = nat_le (low / 16) h && nat_le h (high / 16)

abbrev pub GoodUtf8 : Utf8 → Type 0
GoodUtf8 Start = Unit {0}
GoodUtf8 (Within n low high) = (128 ≤ low) × (low ≤ high) × (high ≤ 191)

abbrev pub GoodShown : ShownState → Type 0
GoodShown Quote = Unit {0}
GoodShown (Unencoded bytes x) = GoodUtf8 x
GoodShown (Percent bytes x) = GoodUtf8 x
GoodShown (Hex bytes x h) = GoodUtf8 x × (h < 16) × (can_begin x h ≡ true)
GoodShown (Done bytes) = Unit {0}

-- one more byte of the value, unescaped or decoded from an escape
abbrev pub push_byte : ShownState → ℕ → Option ShownState
push_byte Quote b = None
push_byte (Unencoded bytes x) b = option_map (Unencoded (bytes ++ b ∷ [])) (utf8_step x b)
push_byte (Percent bytes x) b = option_map (Unencoded (bytes ++ b ∷ [])) (utf8_step x b)
push_byte (Hex bytes x h) b = option_map (Unencoded (bytes ++ b ∷ [])) (utf8_step x b)
push_byte (Done bytes) b = None

abbrev pub quote_step : List ℕ → Utf8 → Option ShownState
quote_step bytes Start = Some (Done bytes)
quote_step bytes (Within n low high) = None

abbrev pub shown_step : ShownState → ℕ → Option ShownState
shown_step Quote b = allow (b == quote) (Unencoded [] Start)
shown_step (Unencoded bytes x) b = if b == quote then quote_step bytes x else
    (if b == percent then Some (Percent bytes x) else
    (if is_visible b then option_map (Unencoded (bytes
    ++ b ∷ [])) (utf8_step x b) else None))
shown_step (Percent bytes x) b = option_and_then (λ h. allow (can_begin x h) (Hex bytes x h))
    (unhex b)
shown_step (Hex bytes x h) b = option_and_then (λ l. option_map (Unencoded (bytes
    ++ (h * 16 + l) ∷ [])) (utf8_step x (h * 16 + l))) (unhex b)
shown_step (Done bytes) b = None

abbrev pub shown_finish : ShownState → Option (List ℕ)
shown_finish Quote = None
shown_finish (Unencoded bytes x) = None
shown_finish (Percent bytes x) = None
shown_finish (Hex bytes x h) = None
shown_finish (Done bytes) = Some bytes
