-- Serialising Integers, Decimals and Dates.
use Rattle.std.specs.List.{list_all}
use Rattle.std.proofs.Common.{◌≡◌, ℕ, zero, suc, ◌+◌, ◌/◌, ◌%◌, ◌^◌, ◌<◌, ◌≤◌, ℤ}
use Rattle.std.proofs.Common.{nat_abs, Bool, true, false, ◌&&◌, ◌==◌, List, [], ◌∷◌, ◌++◌, Some, None}
use Rattle.std.proofs.Common.{decimal}
use Rattle.std.proofs.Common.{refl, ap, ◌∙◌, arith, eqb-true}
use Rattle.std.specs.Prelude.{nat_lt, nat_le}
use Rattle.std.specs.Fmt.{signed_decimal}
use Rattle.std.proofs.lemmas.Fmt.{decimal_by_steps}
use Rattle.std.proofs.lemmas.Bool.Decides.{nat_tests}
use Rattle.sf_value.specs.Grammar.Numbers.{sign}
use Rattle.sf_value.specs.Grammar.Canonical.{is_negative, fraction, canon_decimal}
use Rattle.sf_rfc.specs.Rfc9651.SerialisingBare.{minus_sign, digits_within, in_base10}
use Rattle.sf_rfc.specs.Rfc9651.SerialisingBare.{serialise_integer, significant, serialise_fraction}
use Rattle.sf_rfc.specs.Rfc9651.SerialisingBare.{serialise_rounded, serialise_date}

-- with any bound above the number, its digits are w
abbrev IsWritten : ℕ → List ℕ → Type 0
IsWritten n w = (most : ℕ) → n < most → digits_within most n ≡ w

small_test : (n : ℕ) → n < 10 → nat_lt n 10 ≡ true
small_test n h = grind (arith, nat_tests)

large_test : (n : ℕ) → 10 ≤ n → nat_lt n 10 ≡ false
large_test n h = grind (arith, nat_tests)

one_digit : (n : ℕ) → n < 10 → IsWritten n ((48 + n) ∷ [])
one_digit n h zero l = absurd (omega arith)
one_digit n h (suc most) l = rw (small_test n h, digits_within) refl

more_digits : (n : ℕ) (w : List ℕ) → 10 ≤ n → IsWritten (n / 10) w
    → IsWritten n (w ++ ((48 + n % 10) ∷ []))
more_digits n w h k zero l = absurd (omega arith)
more_digits n w h k (suc most) l =
    let e : n / 10 < most = omega arith in
    rw (large_test n h, digits_within, k most e) refl

base10_is : (n : ℕ) → n < 2 ^ 64 → in_base10 n ≡ decimal n
base10_is n h = decimal_by_steps IsWritten one_digit more_digits n h (suc n) (omega arith)

small : (n : ℕ) → n < 10 ^ 15 → n < 2 ^ 64
small n h = omega arith

range_test : (n : ℕ) → n < 10 ^ 15 → nat_le n 999999999999999 ≡ true
range_test n h = grind (arith, nat_tests)

signed_is : (z : ℤ) → minus_sign z ++ decimal (nat_abs z) ≡ signed_decimal z
signed_is z = grind arith

pub integer_serialised : (z : ℤ) → nat_abs z < 10 ^ 15
    → serialise_integer z ≡ Some (signed_decimal z)
integer_serialised z h =
    rw (range_test (nat_abs z) h, base10_is (nat_abs z) (small (nat_abs z) h), signed_is z) refl

pub date_serialised : (z : ℤ) → nat_abs z < 10 ^ 15
    → serialise_date z ≡ Some (64 ∷ signed_decimal z)
date_serialised z h = rw (integer_serialised z h) refl

-- the significant digits of three
abbrev is_zero : ℕ → Bool
is_zero x = x == 48

keep : (c : ℕ) (t : List ℕ) → list_all is_zero (c ∷ t) ≡ false
    → significant (c ∷ t) ≡ c ∷ significant t
keep c t e = rw (e, significant) refl

leave : (c : ℕ) (t : List ℕ) → list_all is_zero (c ∷ t) ≡ true → significant (c ∷ t) ≡ []
leave c t e = rw (e, significant) refl

zero_digit : (a : ℕ) → a ≡ 0 → is_zero (48 + a) ≡ true
zero_digit a e = grind (arith, nat_tests)

other_digit : (a : ℕ) → 0 < a → is_zero (48 + a) ≡ false
other_digit a h = grind (arith, nat_tests)

and_false : (x : Bool) → (x && false) ≡ false
and_false x = grind arith

three_digits : (a b c : ℕ) → 0 < c
    → significant ((48 + a) ∷ (48 + b) ∷ (48 + c) ∷ []) ≡ (48 + a) ∷ (48 + b) ∷ (48 + c) ∷ []
three_digits a b c h =
    keep (48 + a) ((48 + b) ∷ (48 + c) ∷ [])
    (rw (other_digit c h, and_false (is_zero (48 + b)), and_false (is_zero (48 + a))) refl)
    ∙ ap (λ t. (48 + a) ∷ t)
    (keep (48 + b) ((48 + c) ∷ []) (rw (other_digit c h, and_false (is_zero (48 + b))) refl)
    ∙ ap (λ t. (48 + b) ∷ t) (keep (48 + c) [] (rw (other_digit c h) refl)))

two_digits : (a b c : ℕ) → 0 < b → c ≡ 0
    → significant ((48 + a) ∷ (48 + b) ∷ (48 + c) ∷ []) ≡ (48 + a) ∷ (48 + b) ∷ []
two_digits a b c h e =
    keep (48 + a) ((48 + b) ∷ (48 + c) ∷ [])
    (rw (other_digit b h, and_false (is_zero (48 + a))) refl)
    ∙ ap (λ t. (48 + a) ∷ t)
    (keep (48 + b) ((48 + c) ∷ []) (rw (other_digit b h) refl)
    ∙ ap (λ t. (48 + b) ∷ t) (leave (48 + c) [] (rw (zero_digit c e) refl)))

one_of_three : (a b c : ℕ) → 0 < a → b ≡ 0 → c ≡ 0
    → significant ((48 + a) ∷ (48 + b) ∷ (48 + c) ∷ []) ≡ (48 + a) ∷ []
one_of_three a b c h e k =
    keep (48 + a) ((48 + b) ∷ (48 + c) ∷ []) (rw (other_digit a h) refl)
    ∙ ap (λ t. (48 + a) ∷ t)
    (leave (48 + b) ((48 + c) ∷ []) (rw (zero_digit b e, zero_digit c k) refl))

not_zero : (n : ℕ) → (n == 0) ≡ false → 0 < n
not_zero n e = grind (arith, nat_tests)

fraction_is : (f : ℕ) → f < 1000 → serialise_fraction f ≡ fraction f
fraction_is f h = at_zero (f == 0) refl
  where
    digits_of : List ℕ
    digits_of = significant ((48 + f / 100) ∷ (48 + f / 10 % 10) ∷ (48 + f % 10) ∷ [])

    at_digits : (x y : Bool) → (f % 100 == 0) ≡ x → (f % 10 == 0) ≡ y → 0 < f
        → digits_of ≡ fraction f
    at_digits true y e k l =
        let none : f % 100 ≡ 0 = eqb-true (f % 100) 0 e in
        rw e (one_of_three (f / 100) (f / 10 % 10) (f % 10) (omega arith) (omega arith)
        (omega arith))
    at_digits false true e k l =
        let some : 0 < f % 100 = not_zero (f % 100) e in
        let none : f % 10 ≡ 0 = eqb-true (f % 10) 0 k in
        rw (e, k) (two_digits (f / 100) (f / 10 % 10) (f % 10) (omega arith) none)
    at_digits false false e k l =
        rw (e, k) (three_digits (f / 100) (f / 10 % 10) (f % 10) (not_zero (f % 10) k))

    at_zero : (x : Bool) → (f == 0) ≡ x → serialise_fraction f ≡ fraction f
    at_zero true e = rw (eqb-true f 0 e) refl
    at_zero false e =
        rw (e, serialise_fraction)
        (at_digits (f % 100 == 0) (f % 10 == 0) refl refl (not_zero f e))

whole_test : (n : ℕ) → n < 10 ^ 15 → nat_lt (n / 1000) 1000000000000 ≡ true
whole_test n h = let e : n / 1000 < 1000000000000 = omega arith in grind (arith, nat_tests)

sign_is : (z : ℤ) → minus_sign z ≡ sign (is_negative z)
sign_is z = grind arith

pub rounded_serialised : (z : ℤ) → nat_abs z < 10 ^ 15
    → serialise_rounded z ≡ Some (canon_decimal z)
rounded_serialised z h =
    rw (
      whole_test (nat_abs z) h,
      sign_is z,
      base10_is (nat_abs z / 1000) (omega arith),
      fraction_is (nat_abs z % 1000) (omega arith),
    ) refl

large_whole : (n : ℕ) → 10 ^ 15 ≤ n → nat_lt (n / 1000) 1000000000000 ≡ false
large_whole n h = let e : 1000000000000 ≤ n / 1000 = omega arith in grind (arith, nat_tests)

pub large_fails : (z : ℤ) → 10 ^ 15 ≤ nat_abs z → serialise_rounded z ≡ None
large_fails z h = rw (large_whole (nat_abs z) h) refl
