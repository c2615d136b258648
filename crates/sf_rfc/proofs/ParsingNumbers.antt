-- Parsing numbers and Dates.
use Rattle.std.proofs.Common.{◌≡◌, ℕ, ◌+◌, ◌-◌, ◌*◌, ◌^◌, ◌≤◌, ℤ, pos, negsuc, ◌*ℤ◌, Bool}
use Rattle.std.proofs.Common.{true, false, ◌||◌, ◌==◌, nat_lt, List, [], ◌∷◌, ◌++◌, length, drop}
use Rattle.std.proofs.Common.{replicate, Option, Some, refl, sym, ap, ap₂, ◌∙◌, subst, arith}
use Rattle.std.proofs.Common.{append_assoc, append-nil, eqb-true, length-append, ◌⊎◌, inl, inr}
use Rattle.std.proofs.lemmas.Bool.Decides.{nat_tests}
use Rattle.std.proofs.Math.IntN.{pos-*ℤ-pos, negsuc-*ℤ-pos}
use Rattle.sf_value.specs.declared.value.Bare.{Bare}
use Rattle.sf_value.specs.declared.value.Bare.TheVariants.{Integer, Decimal, Date}
use Rattle.sf_value.specs.Grammar.Words.{Every}
use Rattle.sf_value.specs.Grammar.Classes.{is_digit}
use Rattle.sf_value.specs.Grammar.Numbers.{sign, signed, value_from, thousandths, AreDigits}
use Rattle.sf_rfc.specs.Rfc9651.Words.{and_then, first_is, before, from}
use Rattle.sf_rfc.specs.Rfc9651.Alphabets.{is_DIGIT}
use Rattle.sf_rfc.specs.Rfc9651.ParsingBare.{NumberType, AnInteger, ADecimal, too_long, number_loop}
use Rattle.sf_rfc.specs.Rfc9651.ParsingBare.{base10, after_point, in_thousandths, number_of}
use Rattle.sf_rfc.specs.Rfc9651.ParsingBare.{unsigned_number, parse_number}
use Rattle.sf_rfc.specs.Rfc9651.ParsingBare.{date_of, parse_date}
use Rattle.sf_rfc.specs.ParsingLaws.{SpellsNumber, is_in_number, NumbersAgree}
use Rattle.sf_rfc.specs.ParsingLaws.{SpellsBareDate, DatesAgree}
use Rattle.sf_rfc.proofs.ParsingSteps.{never, some_is, some_pair, and_then_cases, if_so, if_not}
use Rattle.sf_rfc.proofs.ParsingSteps.{if_either}

-- the loop after the point
fraction_taken : (number t : List ℕ) (p : NumberType × List ℕ) (r : List ℕ)
    → number_loop ADecimal number t ≡ Some (p, r)
    → (f : List ℕ) × (t ≡ f ++ r) × (p ≡ (ADecimal, number ++ f)) × Every is_digit f
fraction_taken number [] p r e =
    let k = some_pair (ADecimal, number) p [] r e in
    ([], k.1, sym k.0 ∙ ap (λ x. (ADecimal, x)) (sym (append-nil number)), tt)
fraction_taken number (c ∷ t) p r e = elim (if_either (is_DIGIT c) _ _ _ e) [
  | inl k ↦
      let j = if_not (too_long ADecimal (number ++ c ∷ [])) _ _ k.1 in
      let (f, a, b, d) = fraction_taken (number ++ c ∷ []) t p r j.1 in (
        c ∷ f,
        ap (λ x. c ∷ x) a,
        b ∙ ap (λ x. (ADecimal, x)) (append_assoc number (c ∷ []) f),
        (k.0, d),
      )
  | inr k ↦
      let j = some_pair (ADecimal, number) p (c ∷ t) r k.1 in
      ([], j.1, sym j.0 ∙ ap (λ x. (ADecimal, x)) (sym (append-nil number)), tt)
]

not_long : (number : List ℕ) → too_long AnInteger number ≡ false → length number ≤ 15
not_long number h = grind (arith, nat_tests)

not_more : (n m : ℕ) → nat_lt m n ≡ false → n ≤ m
not_more n m h = grind (arith, nat_tests)

-- the loop from the first digit on: an Integer's digits, or a Decimal's with the point
abbrev Taken : List ℕ → List ℕ → NumberType × List ℕ → List ℕ → Type 0
Taken number t p r =
    (w : List ℕ) × Every is_digit w
    × (((t ≡ w ++ r) × (p ≡ (AnInteger, number ++ w)) × (length (number ++ w) ≤ 15))
    ⊎ ((f : List ℕ) × (t ≡ w ++ 46 ∷ (f ++ r)) × (p ≡ (ADecimal, number ++ (w ++ 46 ∷ f)))
    × (length (number ++ w) ≤ 12) × Every is_digit f))

none_taken : (number t : List ℕ) (p : NumberType × List ℕ) (r : List ℕ) → length number ≤ 15
    → ◌≡◌ {A = Option ((NumberType × List ℕ) × List ℕ)} (Some ((AnInteger, number), t)) (Some (p, r))
    → Taken number t p r
none_taken number t p r h e =
    let k = some_pair (AnInteger, number) p t r e in (
      [],
      tt,
      inl (
        k.1,
        sym k.0 ∙ ap (λ x. (AnInteger, x)) (sym (append-nil number)),
        rw (append-nil number) h,
      ),
    )

digit_taken : (number t : List ℕ) (c : ℕ) (p : NumberType × List ℕ) (r : List ℕ)
    → is_digit c ≡ true → Taken (number ++ c ∷ []) t p r → Taken number (c ∷ t) p r
digit_taken number t c p r d (w, a, inl k) = (
  c ∷ w,
  (d, a),
  inl (
    ap (λ x. c ∷ x) k.0,
    k.1 ∙ ap (λ x. (AnInteger, x)) (append_assoc number (c ∷ []) w),
    rw (← append_assoc number (c ∷ []) w) k.2,
  ),
)
digit_taken number t c p r d (w, a, inr (f, i, j, h, e)) = (
  c ∷ w,
  (d, a),
  inr (
    f,
    ap (λ x. c ∷ x) i,
    j ∙ ap (λ x. (ADecimal, x)) (append_assoc number (c ∷ []) (w ++ 46 ∷ f)),
    rw (← append_assoc number (c ∷ []) w) h,
    e,
  ),
)

point_taken : (number t : List ℕ) (c : ℕ) (p : NumberType × List ℕ) (r : List ℕ)
    → (c == 46) ≡ true → length number ≤ 12
    → number_loop ADecimal (number ++ c ∷ []) t ≡ Some (p, r) → Taken number (c ∷ t) p r
point_taken number t c p r i h e =
    let (f, a, b, d) = fraction_taken (number ++ c ∷ []) t p r e in (
      [],
      tt,
      inr (
        f,
        ap₂ (λ x y. x ∷ y) (eqb-true c 46 i) a,
        b ∙ ap (λ x. (ADecimal, x)) (append_assoc number (c ∷ []) f
            ∙ ap (λ x. number ++ x ∷ f) (eqb-true c 46 i)),
        rw (append-nil number) h,
        d,
      ),
    )

whole_taken : (number t : List ℕ) (p : NumberType × List ℕ) (r : List ℕ) → length number ≤ 15
    → number_loop AnInteger number t ≡ Some (p, r) → Taken number t p r
whole_taken number [] p r h e = none_taken number [] p r h e
whole_taken number (c ∷ t) p r h e = elim (if_either (is_DIGIT c) _ _ _ e) [
  | inl k ↦
      let j = if_not (too_long AnInteger (number ++ c ∷ [])) _ _ k.1 in
      digit_taken number t c p r k.0
      (whole_taken (number ++ c ∷ []) t p r (not_long (number ++ c ∷ []) j.0) j.1)
  | inr k ↦ elim (if_either (c == 46) _ _ _ k.1) [
    | inl j ↦
        let m = if_not (nat_lt 12 (length number)) _ _ j.1 in
        let n = if_not (too_long ADecimal (number ++ c ∷ [])) _ _ m.1 in
        point_taken number t c p r j.0 (not_more (length number) 12 m.0) n.1
    | inr j ↦ none_taken number (c ∷ t) p r h j.1
  ]
]

-- digits by their value
same_value : (n : ℕ) (w : List ℕ) → base10 n w ≡ value_from n w
same_value n [] = refl
same_value n (c ∷ w) =
    let i : n * 10 + (c - 48) ≡ 10 * n + (c - 48) = omega arith in
    rw i (same_value (10 * n + (c - 48)) w)

value_append : (n : ℕ) (w u : List ℕ) → base10 n (w ++ u) ≡ base10 (base10 n w) u
value_append n [] u = refl
value_append n (c ∷ w) u = value_append (n * 10 + (c - 48)) w u

not_point : (c : ℕ) → is_digit c ≡ true → (c == 46) ≡ false
not_point c h = grind (arith, nat_tests)

before_point : (w f : List ℕ) → Every is_digit w → before 46 (w ++ 46 ∷ f) ≡ w
before_point [] f h = refl
before_point (c ∷ w) f h = rw (not_point c h.0, before) (ap (λ x. c ∷ x) (before_point w f h.1))

from_point : (w f : List ℕ) → Every is_digit w → from 46 (w ++ 46 ∷ f) ≡ 46 ∷ f
from_point [] f h = refl
from_point (c ∷ w) f h = rw (not_point c h.0, from) (from_point w f h.1)

after_point_is : (w f : List ℕ) → Every is_digit w → after_point (w ++ 46 ∷ f) ≡ f
after_point_is w f h = ap (λ x. drop 1 x) (from_point w f h)

in_thousands : (n : ℕ) (f : List ℕ) → 1 ≤ length f → length f ≤ 3
    → base10 n (f ++ replicate (3 - length f) 48)
    ≡ n * 1000 + value_from 0 f * 10 ^ (3 - length f)
in_thousands n (a ∷ b ∷ c ∷ d ∷ f) l h = absurd (omega (arith, h))
in_thousands n f l h = omega arith

same_thousandths : (w f : List ℕ) → Every is_digit w → 1 ≤ length f → length f ≤ 3
    → in_thousandths (w ++ 46 ∷ f) ≡ value_from 0 w * 1000 + value_from 0 f * 10 ^ (3 - length f)
same_thousandths w f d l h =
    rw (before_point w f d, after_point_is w f d)
    (value_append 0 w (f ++ replicate (3 - length f) 48)
    ∙ in_thousands (base10 0 w) f l h
    ∙ ap (λ x. x * 1000 + value_from 0 f * 10 ^ (3 - length f)) (same_value 0 w))

-- the sign as a factor
abbrev factor : Bool → ℤ
factor false = pos 1
factor true = negsuc 0

times_sign : (neg : Bool) (n : ℕ) → factor neg *ℤ pos n ≡ signed neg n
times_sign false n =
    let i : 1 * n ≡ n = omega arith in
    pos-*ℤ-pos 1 n ∙ ap pos i
times_sign true n =
    let i : 1 * n ≡ n = omega arith in
    negsuc-*ℤ-pos 0 n ∙ ap (λ x. signed true x) i

-- what is after the sign
abbrev Unsigned : Bool → List ℕ → Bare → Type 0
Unsigned neg t v =
    (AreDigits 1 15 0 t × (v ≡ Integer (signed neg (value_from 0 t))))
    ⊎ ((w f : List ℕ) × (t ≡ w ++ 46 ∷ f) × AreDigits 1 12 0 w × AreDigits 1 3 0 f
    × (v ≡ Decimal (thousandths neg (value_from 0 w) (length f) (value_from 0 f))))

in_bounds : (n : ℕ) → (n == 0 || nat_lt 3 n) ≡ false → (1 ≤ n) × (n ≤ 3)
in_bounds n h = (grind (arith, nat_tests), grind (arith, nat_tests))

are_digits : (low high : ℕ) (w : List ℕ) → Every is_digit w → low ≤ length w → length w ≤ high
    → AreDigits low high 0 w
are_digits low high w d l h = record { each = d; enough = omega arith; fits = omega arith }

at_least : (low high : ℕ) (w : List ℕ) → AreDigits low high 0 w → low ≤ length w
at_least low high w d = omega (arith, d.enough)

at_most : (low high : ℕ) (w : List ℕ) → AreDigits low high 0 w → length w ≤ high
at_most low high w d = omega (arith, d.fits)

-- a value with the rest of the input
abbrev with_rest : List ℕ → Bare → Option (Bare × List ℕ)
with_rest u x = Some (x, u)

integer_sound : (neg : Bool) (c : ℕ) (w u r : List ℕ) (v : Bare) → Every is_digit (c ∷ w)
    → length (c ∷ w) ≤ 15
    → and_then (number_of (factor neg) AnInteger (c ∷ w)) (with_rest u) ≡ Some (v, r)
    → (u ≡ r) × Unsigned neg (c ∷ w) v
integer_sound neg c w u r v d h e =
    let k = some_pair (Integer (factor neg *ℤ pos (base10 0 (c ∷ w)))) v u r e in (
      k.1,
      inl (
        are_digits 1 15 (c ∷ w) d (omega arith) h,
        sym k.0 ∙ ap Integer (times_sign neg (base10 0 (c ∷ w))
            ∙ ap (λ x. signed neg x) (same_value 0 (c ∷ w))),
      ),
    )

decimal_sound : (neg : Bool) (c : ℕ) (w f u r : List ℕ) (v : Bare) → Every is_digit (c ∷ w)
    → length (c ∷ w) ≤ 12 → Every is_digit f
    → and_then (number_of (factor neg) ADecimal ((c ∷ w) ++ 46 ∷ f)) (with_rest u)
    ≡ Some (v, r)
    → (u ≡ r) × Unsigned neg ((c ∷ w) ++ 46 ∷ f) v
decimal_sound neg c w f u r v d h g e =
    let number : List ℕ = (c ∷ w) ++ 46 ∷ f in
    let (x, a, b) = and_then_cases (number_of (factor neg) ADecimal number) (with_rest u) (v, r) e in
    let k = some_pair x v u r b in
    let j = if_not
    (length (after_point number) == 0 || nat_lt 3 (length (after_point number)))
    (Some (Decimal (factor neg *ℤ pos (in_thousandths number)))) x a in
    let i : after_point number ≡ f = after_point_is (c ∷ w) f d in
    let m = in_bounds (length f) (subst (λ y. (length y == 0 || nat_lt 3 (length y)) ≡ false) i j.0) in (
      k.1,
      inr (
        c ∷ w,
        f,
        refl,
        are_digits 1 12 (c ∷ w) d (omega arith) h,
        are_digits 1 3 f g m.0 m.1,
        sym k.0 ∙ sym (some_is _ _ j.1) ∙ ap Decimal (times_sign neg (in_thousandths number)
            ∙ ap (λ y. signed neg y) (same_thousandths (c ∷ w) f d m.0 m.1)),
      ),
    )

first_round : (c : ℕ) (t : List ℕ) (q : (NumberType × List ℕ) × List ℕ) → is_DIGIT c ≡ true
    → number_loop AnInteger [] (c ∷ t) ≡ Some q → number_loop AnInteger (c ∷ []) t ≡ Some q
first_round c t q d e = rw (d, number_loop) at e

unsigned_sound : (neg : Bool) (t r : List ℕ) (v : Bare)
    → unsigned_number (factor neg) t ≡ Some (v, r)
    → (prefix : List ℕ) × (t ≡ prefix ++ r) × Unsigned neg prefix v
unsigned_sound neg [] r v e = never (v, r) e
unsigned_sound neg (c ∷ t) r v e =
    let (d, e2) = if_so (is_DIGIT c) _ (v, r) e in
    let (q, a, b) = and_then_cases (number_loop AnInteger [] (c ∷ t)) _ (v, r) e2 in
    let a2 = first_round c t q d a in
    let p : NumberType × List ℕ = q.0 in
    let u : List ℕ = q.1 in
    ended p u d b (whole_taken (c ∷ []) t p u (omega arith) a2)
  where
    ended : (p : NumberType × List ℕ) (u : List ℕ) → is_DIGIT c ≡ true
        → and_then (number_of (factor neg) p.0 p.1) (with_rest u) ≡ Some (v, r)
        → Taken (c ∷ []) t p u
        → (prefix : List ℕ) × (c ∷ t ≡ prefix ++ r) × Unsigned neg prefix v
    ended p u d b (w, g, inl (i, j, h)) =
        let b2 = subst (λ (y : NumberType × List ℕ). and_then (number_of (factor neg) y.0 y.1)
        (with_rest u) ≡ Some (v, r)) j b in
        let k = integer_sound neg c w u r v (d, g) h b2 in
        (c ∷ w, ap (λ x. c ∷ x) (i ∙ ap (λ x. w ++ x) k.0), k.1)
    ended p u d b (w, g, inr (f, i, j, h, g2)) =
        let b2 = subst (λ (y : NumberType × List ℕ). and_then (number_of (factor neg) y.0 y.1)
        (with_rest u) ≡ Some (v, r)) j b in
        let k = decimal_sound neg c w f u r v (d, g) h g2 b2 in (
          c ∷ (w ++ 46 ∷ f),
          ap (λ x. c ∷ x) (i ∙ ap (λ x. w ++ 46 ∷ (f ++ x)) k.0
              ∙ sym (append_assoc w (46 ∷ f) r)),
          k.1,
        )

signed_as : (neg : Bool) (prefix : List ℕ) (v : Bare) → Unsigned neg prefix v
    → SpellsNumber (sign neg ++ prefix) v
signed_as neg prefix v (inl (d, e)) =
    inl (signed neg (value_from 0 prefix), e, (neg, prefix, refl, d, refl))
signed_as neg prefix v (inr (w, f, i, d, g, e)) = inr (
  thousandths neg (value_from 0 w) (length f) (value_from 0 f),
  e,
  (neg, w, f, ap (λ x. sign neg ++ x) i, d, g, refl),
)

number_sound : (t r : List ℕ) (v : Bare) → parse_number t ≡ Some (v, r)
    → (prefix : List ℕ) × (t ≡ prefix ++ r) × SpellsNumber prefix v
number_sound [] r v e = never (v, r) e
number_sound (c ∷ t) r v e = elim (if_either (c == 45) _ _ (v, r) e) [
  | inl k ↦
      let (prefix, a, b) = unsigned_sound true t r v k.1 in
      (45 ∷ prefix, ap₂ (λ x y. x ∷ y) (eqb-true c 45 k.0) a, signed_as true prefix v b)
  | inr k ↦
      let (prefix, a, b) = unsigned_sound false (c ∷ t) r v k.1 in
      (prefix, a, signed_as false prefix v b)
]

-- what is spelled is read
in_fraction : (c : ℕ) → is_in_number c ≡ false → is_DIGIT c ≡ false
in_fraction c h = grind (arith, nat_tests)

no_point : (c : ℕ) → is_in_number c ≡ false → (c == 46) ≡ false
no_point c h = grind (arith, nat_tests)

is_short : (n m : ℕ) → n ≤ m → nat_lt m n ≡ false
is_short n m h = grind (arith, nat_tests)

prefix_length : (a b : List ℕ) (m : ℕ) → length (a ++ b) ≤ m → length a ≤ m
prefix_length a b m h = omega (arith, length-append a b)

fraction_read : (number f r : List ℕ) → Every is_digit f → first_is is_in_number r ≡ false
    → length (number ++ f) ≤ 16
    → number_loop ADecimal number (f ++ r) ≡ Some ((ADecimal, number ++ f), r)
fraction_read number [] [] d h l = ap (λ x. Some ((ADecimal, x), [])) (sym (append-nil number))
fraction_read number [] (c ∷ r) d h l =
    rw (in_fraction c h, number_loop)
    (ap (λ x. Some ((ADecimal, x), c ∷ r)) (sym (append-nil number)))
fraction_read number (c ∷ f) r d h l =
    let i : (number ++ c ∷ []) ++ f ≡ number ++ c ∷ f = append_assoc number (c ∷ []) f in
    let m : length ((number ++ c ∷ []) ++ f) ≤ 16 = rw i l in
    rw (d.0, is_short (length (number ++ c ∷ [])) 16 (prefix_length (number ++ c ∷ []) f 16 m), number_loop)
    (fraction_read (number ++ c ∷ []) f r d.1 h m ∙ ap (λ x. Some ((ADecimal, x), r)) i)

whole_read : (number w r : List ℕ) → Every is_digit w → first_is is_in_number r ≡ false
    → length (number ++ w) ≤ 15
    → number_loop AnInteger number (w ++ r) ≡ Some ((AnInteger, number ++ w), r)
whole_read number [] [] d h l = ap (λ x. Some ((AnInteger, x), [])) (sym (append-nil number))
whole_read number [] (c ∷ r) d h l =
    rw (in_fraction c h, no_point c h, number_loop)
    (ap (λ x. Some ((AnInteger, x), c ∷ r)) (sym (append-nil number)))
whole_read number (c ∷ w) r d h l =
    let i : (number ++ c ∷ []) ++ w ≡ number ++ c ∷ w = append_assoc number (c ∷ []) w in
    let m : length ((number ++ c ∷ []) ++ w) ≤ 15 = rw i l in
    rw (d.0, is_short (length (number ++ c ∷ [])) 15 (prefix_length (number ++ c ∷ []) w 15 m), number_loop)
    (whole_read (number ++ c ∷ []) w r d.1 h m ∙ ap (λ x. Some ((AnInteger, x), r)) i)

point_read : (number w f r : List ℕ) → Every is_digit w → Every is_digit f
    → first_is is_in_number r ≡ false → length (number ++ w) ≤ 12
    → length (number ++ (w ++ 46 ∷ f)) ≤ 16
    → number_loop AnInteger number (w ++ 46 ∷ (f ++ r))
    ≡ Some ((ADecimal, number ++ (w ++ 46 ∷ f)), r)
point_read number [] f r d g h l m =
    let i : (number ++ 46 ∷ []) ++ f ≡ number ++ 46 ∷ f = append_assoc number (46 ∷ []) f in
    let j : length ((number ++ 46 ∷ []) ++ f) ≤ 16 = rw i m in
    rw (
      is_short (length number) 12 (prefix_length number [] 12 l),
      is_short (length (number ++ 46 ∷ [])) 16 (prefix_length (number ++ 46 ∷ []) f 16 j),
      number_loop,
    )
    (fraction_read (number ++ 46 ∷ []) f r g h j ∙ ap (λ x. Some ((ADecimal, x), r)) i)
point_read number (c ∷ w) f r d g h l m =
    let i : (number ++ c ∷ []) ++ w ≡ number ++ c ∷ w = append_assoc number (c ∷ []) w in
    let j : (number ++ c ∷ []) ++ (w ++ 46 ∷ f) ≡ number ++ c ∷ (w ++ 46 ∷ f) =
    append_assoc number (c ∷ []) (w ++ 46 ∷ f) in
    let l2 : length ((number ++ c ∷ []) ++ w) ≤ 12 = rw i l in
    let m2 : length ((number ++ c ∷ []) ++ (w ++ 46 ∷ f)) ≤ 16 = rw j m in
    let k : length (number ++ c ∷ []) ≤ 12 = prefix_length (number ++ c ∷ []) w 12 l2 in
    rw (d.0, is_short (length (number ++ c ∷ [])) 15 (omega arith), number_loop)
    (point_read (number ++ c ∷ []) w f r d.1 g h l2 m2 ∙ ap (λ x. Some ((ADecimal, x), r)) j)

out_of_bounds : (n : ℕ) → 1 ≤ n → n ≤ 3 → (n == 0 || nat_lt 3 n) ≡ false
out_of_bounds n l h = grind (arith, nat_tests)

decimal_value : (neg : Bool) (w f : List ℕ) → Every is_digit w → 1 ≤ length f → length f ≤ 3
    → number_of (factor neg) ADecimal (w ++ 46 ∷ f)
    ≡ Some (Decimal (thousandths neg (value_from 0 w) (length f) (value_from 0 f)))
decimal_value neg w f d l h =
    let i : after_point (w ++ 46 ∷ f) ≡ f = after_point_is w f d in
    rw (i, out_of_bounds (length f) l h, number_of)
    (ap (λ x. Some (Decimal x)) (times_sign neg (in_thousandths (w ++ 46 ∷ f))
    ∙ ap (λ y. signed neg y) (same_thousandths w f d l h)))

-- what is made of the loop's end
abbrev valued : ℤ → (NumberType × List ℕ) × List ℕ → Option (Bare × List ℕ)
valued sign q = and_then (number_of sign q.0.0 q.0.1) (with_rest q.1)

digit_first : (neg : Bool) (c : ℕ) (t : List ℕ) (q : (NumberType × List ℕ) × List ℕ)
    → is_DIGIT c ≡ true → number_loop AnInteger [] (c ∷ t) ≡ Some q
    → unsigned_number (factor neg) (c ∷ t) ≡ valued (factor neg) q
digit_first neg c t q d e =
    rw (d, unsigned_number) (ap (λ o. and_then o (valued (factor neg))) e)

unsigned_whole : (neg : Bool) (t r : List ℕ) (v : Bare) → Unsigned neg t v
    → first_is is_in_number r ≡ false → unsigned_number (factor neg) (t ++ r) ≡ Some (v, r)
unsigned_whole neg [] r v (inl (d, e)) h = absurd (omega (arith, d.enough))
unsigned_whole neg (c ∷ t) r v (inl (d, e)) h =
    rw e (digit_first neg c (t ++ r) ((AnInteger, c ∷ t), r) d.each.0
    (whole_read [] (c ∷ t) r d.each h (at_most 1 15 (c ∷ t) d))
    ∙ ap (λ x. Some (Integer x, r)) (times_sign neg (base10 0 (c ∷ t))
    ∙ ap (λ x. signed neg x) (same_value 0 (c ∷ t))))
unsigned_whole neg t r v (inr ([], f, i, d, g, e)) h = absurd (omega (arith, d.enough))
unsigned_whole neg t r v (inr (c ∷ w, f, i, d, g, e)) h =
    let j : (c ∷ (w ++ 46 ∷ f)) ++ r ≡ c ∷ (w ++ 46 ∷ (f ++ r)) =
    ap (λ x. c ∷ x) (append_assoc w (46 ∷ f) r) in
    let m : length (c ∷ (w ++ 46 ∷ f)) ≤ 16 =
    (let k : length (w ++ 46 ∷ f) ≡ length w + length (46 ∷ f) = length-append w (46 ∷ f) in
    omega (arith, at_most 1 12 (c ∷ w) d, at_most 1 3 f g)) in
    rw (i, j, e) (digit_first neg c (w ++ 46 ∷ (f ++ r)) ((ADecimal, c ∷ (w ++ 46 ∷ f)), r) d.each.0
    (point_read [] (c ∷ w) f r d.each g.each h (at_most 1 12 (c ∷ w) d) m)
    ∙ ap (λ o. and_then o (with_rest r)) (decimal_value neg (c ∷ w) f d.each (at_least 1 3 f g) (at_most 1 3 f g)))

not_minus : (c : ℕ) → is_digit c ≡ true → (c == 45) ≡ false
not_minus c h = grind (arith, nat_tests)

unsigned_first : (t : List ℕ) (v : Bare) → Unsigned false t v → first_is is_digit t ≡ true
unsigned_first [] v (inl (d, e)) = absurd (omega (arith, d.enough))
unsigned_first (c ∷ t) v (inl (d, e)) = d.each.0
unsigned_first t v (inr ([], f, i, d, g, e)) = absurd (omega (arith, d.enough))
unsigned_first t v (inr (c ∷ w, f, i, d, g, e)) = rw i d.each.0

signed_whole : (neg : Bool) (t r : List ℕ) (v : Bare) → Unsigned neg t v
    → first_is is_in_number r ≡ false → parse_number ((sign neg ++ t) ++ r) ≡ Some (v, r)
signed_whole true t r v u h = unsigned_whole true t r v u h
signed_whole false [] r v u h =
    let i : false ≡ true = unsigned_first [] v u in absurd cc
signed_whole false (c ∷ t) r v u h =
    rw (not_minus c (unsigned_first (c ∷ t) v u), parse_number) (unsigned_whole false (c ∷ t) r v u h)

number_whole : (t r : List ℕ) (v : Bare) → SpellsNumber t v → first_is is_in_number r ≡ false
    → parse_number (t ++ r) ≡ Some (v, r)
number_whole t r v (inl (n, e, (neg, w, i, d, j))) h =
    rw i (signed_whole neg w r v (inl (d, e ∙ ap Integer j)) h)
number_whole t r v (inr (m, e, (neg, w, f, i, d, g, j))) h =
    rw i (signed_whole neg (w ++ 46 ∷ f) r v (inr (w, f, refl, d, g, e ∙ ap Decimal j)) h)

pub numbers_agree : NumbersAgree
numbers_agree = record { sound = number_sound; whole = number_whole }

-- Dates
date_from : (x y : Bare) (t : List ℕ) → SpellsNumber t x → date_of x ≡ Some y
    → SpellsBareDate (64 ∷ t) y
date_from x y t (inl (n, e, s)) d =
    let i : ◌≡◌ {A = Option Bare} (Some (Date n)) (Some y) = subst (λ z. date_of z ≡ Some y) e d in
    (n, sym (some_is (Date n) y i), (t, refl, s))
date_from x y t (inr (m, e, s)) d =
    never y (subst (λ z. date_of z ≡ Some y) e d)

date_sound : (t r : List ℕ) (v : Bare) → parse_date t ≡ Some (v, r)
    → (prefix : List ℕ) × (t ≡ prefix ++ r) × SpellsBareDate prefix v
date_sound [] r v e = never (v, r) e
date_sound (c ∷ t) r v e =
    let (i, a) = if_so (c == 64) _ (v, r) e in
    let (q, b, d) = and_then_cases (parse_number t) _ (v, r) a in
    let (y, f, g) = and_then_cases (date_of q.0) _ (v, r) d in
    let k = some_pair y v q.1 r g in
    let (prefix, m, s) = number_sound t q.1 q.0 b in (
      64 ∷ prefix,
      ap₂ (λ x y. x ∷ y) (eqb-true c 64 i) (m ∙ ap (λ x. prefix ++ x) k.1),
      subst (λ x. SpellsBareDate (64 ∷ prefix) x) k.0 (date_from q.0 y prefix s f),
    )

date_whole : (t r : List ℕ) (v : Bare) → SpellsBareDate t v → first_is is_in_number r ≡ false
    → parse_date (t ++ r) ≡ Some (v, r)
date_whole t r v (n, e, (u, i, s)) h =
    rw (i, number_whole u r (Integer n) (inl (n, refl, s)) h, e) refl

pub dates_agree : DatesAgree
dates_agree = record { sound = date_sound; whole = date_whole }
