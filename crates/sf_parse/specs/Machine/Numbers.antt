-- The machine that reads Integers, Decimals and Dates.
use Rattle.std.specs.Option.{option_or}
use Rattle.std.specs.Prelude.{◌≡◌, ℕ, ◌+◌, ◌-◌, ◌*◌, ◌<◌, ◌≤◌, ◌^◌, ℤ, Bool, true, false, ◌==◌}
use Rattle.std.specs.Prelude.{nat_le, nat_lt, ◌&&◌, List, ◌∷◌, ◌++◌, length, Option, None, ◌⊎◌}
use Rattle.sf_value.specs.Ascii.{minus, point, digit_zero}
use Rattle.sf_value.specs.Grammar.Words.{allow}
use Rattle.sf_value.specs.Grammar.Classes.{is_digit}
use Rattle.sf_value.specs.Grammar.Numbers.{signed, value_from, AreDigits, thousandths}
use Rattle.sf_value.specs.Grammar.Numbers.{SpellsInteger, SpellsDecimal}
use Rattle.sf_value.specs.declared.value.Bare.{Bare}
use Rattle.sf_value.specs.declared.value.Bare.TheVariants.{Integer, Decimal}

-- the number of digits of a whole part and their value; after a point, those of the fraction
pub data NumberState : Type 0 where
  Whole : (neg : Bool) (count value : ℕ) → NumberState
  Fraction : (neg : Bool) (whole count value : ℕ) → NumberState

abbrev pub ResidualInteger : Bool → ℕ → ℕ → List ℕ → ℤ → Type 0
ResidualInteger neg count a u n = AreDigits 1 15 count u × (n ≡ signed neg (value_from a u))

abbrev pub ResidualFraction : Bool → ℕ → ℕ → ℕ → List ℕ → ℤ → Type 0
ResidualFraction neg whole count a u m = AreDigits 1 3 count u
    × (m ≡ thousandths neg whole (count + length u) (value_from a u))

abbrev pub ResidualDecimal : Bool → ℕ → ℕ → List ℕ → ℤ → Type 0
ResidualDecimal neg count a u m = (w f : List ℕ) × (u ≡ w ++ point ∷ f) × AreDigits 1 12 count w
    × ResidualFraction neg (value_from a w) 0 0 f m

abbrev pub ResidualNumber : NumberState → List ℕ → Bare → Type 0
ResidualNumber (Whole neg count a) u v = ((n : ℤ) × (v ≡ Integer n)
    × ResidualInteger neg count a u n)
    ⊎ ((m : ℤ) × (v ≡ Decimal m) × ResidualDecimal neg count a u m)
ResidualNumber (Fraction neg whole count a) u v = (m : ℤ) × (v ≡ Decimal m)
    × ResidualFraction neg whole count a u m

-- at most `most` digits, which bound the value
abbrev pub FitsDigits : ℕ → ℕ → ℕ → Type 0
FitsDigits most count a = (count ≤ most) × (a < 10 ^ count)

abbrev pub GoodNumber : NumberState → Type 0
GoodNumber (Whole neg count a) = FitsDigits 15 count a
GoodNumber (Fraction neg whole count a) = FitsDigits 3 count a × (whole < 10 ^ 12)

abbrev pub number_step : NumberState → ℕ → Option NumberState
number_step (Whole neg count a) b = option_or
    (allow (is_digit b && nat_lt count 15) (Whole neg (count + 1) (10 * a + (b - digit_zero))))
    (allow (b == point && (nat_le 1 count && nat_le count 12)) (Fraction neg a 0 0))
number_step (Fraction neg whole count a) b = allow (is_digit b && nat_lt count 3)
    (Fraction neg whole (count + 1) (10 * a + (b - digit_zero)))

abbrev pub number_finish : NumberState → Option Bare
number_finish (Whole neg count a) = allow (nat_le 1 count) (Integer (signed neg a))
number_finish (Fraction neg whole count a) = allow (nat_le 1 count)
    (Decimal (thousandths neg whole count a))

-- the text of an Integer or of a Decimal
abbrev pub SpellsNumber : List ℕ → Bare → Type 0
SpellsNumber t v = ((n : ℤ) × (v ≡ Integer n) × SpellsInteger t n) ⊎ ((m : ℤ) × (v ≡ Decimal m)
    × SpellsDecimal t m)

abbrev pub number_start : ℕ → Option NumberState
number_start b = option_or (allow (b == minus) (Whole true 0 0)) (number_step (Whole false 0 0) b)

-- the digits of a date so far
pub data DateState : Type 0 where
  Digits : (neg : Bool) (count value : ℕ) → DateState
  Sign : DateState

abbrev pub ResidualDate : DateState → List ℕ → ℤ → Type 0
ResidualDate (Digits neg count a) u n = ResidualInteger neg count a u n
ResidualDate Sign u n = SpellsInteger u n

abbrev pub GoodDate : DateState → Type 0
GoodDate (Digits neg count a) = FitsDigits 15 count a
GoodDate Sign = Unit {0}

abbrev pub digits_step : Bool → ℕ → ℕ → ℕ → Option DateState
digits_step neg count a b = allow (is_digit b && nat_lt count 15)
    (Digits neg (count + 1) (10 * a + (b - digit_zero)))

abbrev pub date_step : DateState → ℕ → Option DateState
date_step (Digits neg count a) b = digits_step neg count a b
date_step Sign b = option_or (allow (b == minus) (Digits true 0 0)) (digits_step false 0 0 b)

abbrev pub date_finish : DateState → Option ℤ
date_finish (Digits neg count a) = allow (nat_le 1 count) (signed neg a)
date_finish Sign = None
