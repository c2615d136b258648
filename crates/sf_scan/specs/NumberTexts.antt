-- Integers, Decimals and Dates from one of their places on.
use Rattle.std.specs.Prelude.{◌≡◌, ℕ, ◌-◌, ◌<◌, ◌≤◌, ◌^◌, ℤ, Bool, true, List, ◌∷◌, ◌++◌, length}
use Rattle.sf_value.specs.Ascii.{point, digit_zero}
use Rattle.sf_value.specs.declared.value.Bare.{Bare}
use Rattle.sf_value.specs.declared.value.Bare.TheVariants as bare
use Rattle.sf_value.specs.Grammar.Classes.{is_digit}
use Rattle.sf_value.specs.Grammar.Numbers.{signed, value_from, AreDigits, thousandths, SpellsInteger}
use Rattle.sf_value.specs.Grammar.Words.{Every}
use Rattle.sf_value.specs.Runs.{Lacks}
use Rattle.sf_scan.specs.declared.number.Digits.{Digits}

-- an Integer after its sign
abbrev pub IntegerAfterSign : Bool → List ℕ → ℤ → Type 0
IntegerAfterSign neg t n = AreDigits 1 15 0 t × (n ≡ signed neg (value_from 0 t))

-- a Decimal after its point, with the value of the digits before it
abbrev pub DecimalAfterPoint : Bool → ℕ → List ℕ → ℤ → Type 0
DecimalAfterPoint neg whole t m =
    AreDigits 1 3 0 t × (m ≡ thousandths neg whole (length t) (value_from 0 t))

-- an Integer or a Decimal after its sign
abbrev pub NumberAfterSign : Bool → List ℕ → Bare → Type 0
NumberAfterSign neg t (bare.Integer n) = IntegerAfterSign neg t n
NumberAfterSign neg t (bare.Decimal m) =
    (w f : List ℕ)
    × (t ≡ w ++ point ∷ f)
    × AreDigits 1 12 0 w
    × DecimalAfterPoint neg (value_from 0 w) f m
NumberAfterSign neg t x = ⊥

-- an Integer or a Decimal after its point, which only a Decimal has
abbrev pub NumberAfterPoint : Bool → ℕ → List ℕ → Bare → Type 0
NumberAfterPoint neg whole t (bare.Decimal m) = DecimalAfterPoint neg whole t m
NumberAfterPoint neg whole t x = ⊥

-- a Date after its @
abbrev pub DateAfterAt : List ℕ → Bare → Type 0
DateAfterAt t (bare.Date n) = SpellsInteger t n
DateAfterAt t x = ⊥

-- a Date after its sign
abbrev pub DateAfterSign : Bool → List ℕ → Bare → Type 0
DateAfterSign neg t (bare.Date n) = IntegerAfterSign neg t n
DateAfterSign neg t x = ⊥

-- the text begins with a digit of this value, and the rest
abbrev pub BeginsDigit : List ℕ → ℕ → List ℕ → Type 0
BeginsDigit text value rest =
    (b : ℕ) × (text ≡ b ∷ rest) × (is_digit b ≡ true) × (value ≡ b - digit_zero)

-- the text begins with so many digits of this value, and the rest
pub record PastDigits (text : List ℕ) (count value : ℕ) (rest : List ℕ) : Type 0 where
  pub digits : List ℕ
  pub split : text ≡ digits ++ rest
  pub each : Every is_digit digits
  pub counted : count ≡ length digits
  pub valued : value ≡ value_from 0 digits
  pub small : value < 10 ^ count

-- these are the digits that the text begins with, at most so many
pub record TakesDigits (most : ℕ) (text : List ℕ) (run : Digits) : Type 0 where
  pub past : PastDigits text run.count run.value run.left.now
  pub within : run.count ≤ most
  pub longest : run.count < most → Lacks is_digit run.left.now

-- after so many digits a point may come, and the text begins with it, and the rest
pub record PastPoint (count : ℕ) (text rest : List ℕ) : Type 0 where
  pub some : 1 ≤ count
  pub few : count ≤ 12
  pub split : text ≡ point ∷ rest
