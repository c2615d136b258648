-- The texts of Integers, Decimals and Dates.
use Rattle.std.specs.Prelude.{◌≡◌, ℕ, ◌+◌, ◌-◌, ◌*◌, ◌^◌, ◌≤◌, ℤ, pos, neg_ℤ, Bool, true, false}
use Rattle.std.specs.Prelude.{List, [], ◌∷◌, ◌++◌, length}
use Rattle.sf_value.specs.Ascii.{minus, point, digit_zero, at_sign}
use Rattle.sf_value.specs.Grammar.Words.{Every}
use Rattle.sf_value.specs.Grammar.Classes.{is_digit}

-- a number with its sign
abbrev pub signed : Bool → ℕ → ℤ
signed false n = pos n
signed true n = neg_ℤ (pos n)

-- the text of a sign
abbrev pub sign : Bool → List ℕ
sign false = []
sign true = minus ∷ []

-- the value of the digits w after digits of value a
abbrev pub value_from : ℕ → List ℕ → ℕ
value_from a [] = a
value_from a (d ∷ w) = value_from (10 * a + (d - digit_zero)) w

-- w is digits, and there are low to high of them with the `before` earlier ones
pub record AreDigits (low high : ℕ) (before : ℕ) (w : List ℕ) : Type 0 where
  pub each : Every is_digit w
  pub enough : low ≤ before + length w
  pub fits : before + length w ≤ high

-- a Decimal in thousandths, by its whole part and a fraction of this many digits
abbrev pub thousandths : Bool → ℕ → ℕ → ℕ → ℤ
thousandths neg whole count fraction = signed neg (whole * 1000 + fraction * 10 ^ (3 - count))

-- an Integer (3.3.1, 4.2.4): an optional -, 1 to 15 digits
abbrev pub SpellsInteger : List ℕ → ℤ → Type 0
SpellsInteger t n =
    (neg : Bool) × (w : List ℕ)
    × (t ≡ sign neg ++ w)
    × AreDigits 1 15 0 w
    × (n ≡ signed neg (value_from 0 w))

-- a Decimal (3.3.2, 4.2.4): an optional -, 1 to 12 digits, a point, 1 to 3 digits
abbrev pub SpellsDecimal : List ℕ → ℤ → Type 0
SpellsDecimal t m =
    (neg : Bool) × (w f : List ℕ)
    × (t ≡ sign neg ++ (w ++ point ∷ f))
    × AreDigits 1 12 0 w
    × AreDigits 1 3 0 f
    × (m ≡ thousandths neg (value_from 0 w) (length f) (value_from 0 f))

-- a Date (3.3.7, 4.2.9): @ and an Integer
abbrev pub SpellsDate : List ℕ → ℤ → Type 0
SpellsDate t n = (suffix : List ℕ) × (t ≡ at_sign ∷ suffix) × SpellsInteger suffix n
