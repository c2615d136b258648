-- The texts of Display Strings.
use Rattle.std.specs.Prelude.{◌≡◌, ℕ, ◌+◌, ◌/◌, ◌%◌, Bool, true, not, ◌==◌, nat_lt, ◌&&◌, ◌⊎◌}
use Rattle.std.specs.Prelude.{if◌then◌else◌, List, [], ◌∷◌}
use Rattle.sf_value.specs.Ascii.{quote, percent, digit_zero}
use Rattle.sf_value.specs.Grammar.Classes.{is_visible, is_byte}
use Rattle.sf_value.specs.Grammar.Utf8.{WellFormed, Start}

-- the lower-case hexadecimal digit of a value below 16
abbrev pub hex : ℕ → ℕ
hex d = if nat_lt d 10 then d + digit_zero else d + 87

-- what may be unescaped: 0x20 to 0x7E without the quote and %
abbrev pub is_unencoded : ℕ → Bool
is_unencoded b = is_visible b && (not (b == quote) && not (b == percent))

-- a byte, itself or as % and its two digits, and what follows
abbrev pub EncodedByte : List ℕ → ℕ → List ℕ → Type 0
EncodedByte t c suffix =
    ((is_unencoded c ≡ true) × (t ≡ c ∷ suffix))
    ⊎ ((is_byte c ≡ true) × (t ≡ percent ∷ hex (c / 16) ∷ hex (c % 16) ∷ suffix))

-- the bytes of s, and the quote
abbrev pub EncodedBytes : List ℕ → List ℕ → Type 0
EncodedBytes t [] = t ≡ quote ∷ []
EncodedBytes t (c ∷ s) = (suffix : List ℕ) × EncodedByte t c suffix × EncodedBytes suffix s

-- a Display String (3.3.8, 4.2.10): %, a quote, bytes that make well-formed UTF-8, a quote
abbrev pub SpellsDisplayString : List ℕ → List ℕ → Type 0
SpellsDisplayString t s =
    (suffix : List ℕ) × (t ≡ percent ∷ quote ∷ suffix) × EncodedBytes suffix s × WellFormed Start s
