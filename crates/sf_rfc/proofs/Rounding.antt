-- Serialising a Decimal from a number: rounding to thousandths.
use Rattle.std.proofs.Common.{◌≡◌, ◌≢◌, ℕ, zero, suc, ◌+◌, ◌-◌, ◌*◌, ◌/◌, ◌%◌, ◌^◌, ◌<◌, ◌≤◌, ◌==◌}
use Rattle.std.proofs.Common.{ℤ, pos, negsuc, ◌-ℤ◌, ◌*ℤ◌, neg_ℤ, nat_abs, Bool, true, false, Some}
use Rattle.std.proofs.Common.{None, refl, sym, ap, ◌∙◌, subst, ◌⊎◌, inl, inr, arith, add-one}
use Rattle.std.specs.Prelude.{nat_lt}
use Rattle.std.proofs.lemmas.Bool.Decides.{nat_tests}
use Rattle.std.proofs.lemmas.Int.{ints}
use Rattle.std.proofs.Math.Nat.{mul_comm, mul-le-mul_right, suc-mul, mul-div_cancel}
use Rattle.sf_value.specs.Grammar.Canonical.{canon_decimal}
use Rattle.sf_rfc.specs.Rfc9651.SerialisingBare.{Fraction, to_nearest, with_sign, rounded}
use Rattle.sf_rfc.specs.Rfc9651.SerialisingBare.{serialise_rounded, serialise_decimal, thousandths}
use Rattle.sf_rfc.specs.SerialisingLaws.{distance, RoundsToNearest, ExactIsKept}
use Rattle.sf_rfc.specs.SerialisingLaws.{RoundedSerialises, DecimalSerialises}
use Rattle.sf_rfc.proofs.SerialisingNumbers.{rounded_serialised, large_fails}

-- how far two naturals are apart
abbrev gap : ℕ → ℕ → ℕ
gap a b = (a - b) + (b - a)

-- the three cases of rounding a quotient and its remainder
abbrev Nearest : ℕ → ℕ → ℕ → ℕ → Type 0
Nearest d q r m =
    ((2 * r < d) × (m ≡ q))
    ⊎ (((d < 2 * r) × (m ≡ q + 1)) ⊎ ((2 * r ≡ d) × (m ≡ q + q % 2)))

nearest_is : (d q r : ℕ) → Nearest d q r (to_nearest d q r)
nearest_is d q r = go (nat_lt (2 * r) d) (nat_lt d (2 * r)) refl refl
  where
    go : (x y : Bool) → nat_lt (2 * r) d ≡ x → nat_lt d (2 * r) ≡ y
        → Nearest d q r (to_nearest d q r)
    go true y i j = inl (grind (arith, nat_tests), rw (i, to_nearest) refl)
    go false true i j = inr (inl (grind (arith, nat_tests), rw (i, j, to_nearest) refl))
    go false false i j = inr (inr (grind (arith, nat_tests), rw (i, j, to_nearest) refl))

-- multiples of d are a whole d apart
Apart : ℕ → ℕ → ℕ → Type 0
Apart d j q = (j ≡ q) ⊎ ((j * d + d ≤ q * d) ⊎ (q * d + d ≤ j * d))

order : (j q : ℕ) → (j ≡ q) ⊎ ((suc j ≤ q) ⊎ (suc q ≤ j))
order j q = grind arith

below : (d j q : ℕ) → suc j ≤ q → j * d + d ≤ q * d
below d j q h =
    let k : suc j * d ≤ q * d = mul-le-mul_right d h in
    let e : suc j * d ≡ j * d + d = suc-mul j d in
    omega arith

apart : (d j q : ℕ) → Apart d j q
unfolding Apart
apart d j q = elim (order j q) [
  | inl e ↦ inl e
  | inr k ↦ elim k [
    | inl h ↦ inr (inl (below d j q h))
    | inr h ↦ inr (inr (below d q j h))
  ]
]

one_more : (d q : ℕ) → (q + 1) * d ≡ q * d + d
one_more d q = rw add-one (suc-mul q d)

-- nearest, and even at a tie, among the multiples of d
abbrev IsNearest : ℕ → ℕ → ℕ → ℕ → Type 0
IsNearest a d m j =
    (gap a (m * d) ≤ gap a (j * d))
    × (j ≢ m → gap a (m * d) ≡ gap a (j * d) → m % 2 ≡ 0)

at_quotient : (a d q r j : ℕ) → 0 < d → a ≡ q * d + r → r < d → 2 * r ≤ d
    → (2 * r ≡ d → q % 2 ≡ 0) → IsNearest a d q j
unfolding Apart
at_quotient a d q r j p e l h even = elim (apart d j q) [
  | inl k ↦ (omega (arith, ap (λ y. y * d) k), (λ n t. absurd (n k)))
  | inr k ↦ elim k [
    | inl b ↦ (omega arith, (λ n t. even (omega arith)))
    | inr b ↦ (omega arith, (λ n t. even (omega arith)))
  ]
]

at_next : (a d q r j : ℕ) → 0 < d → a ≡ q * d + r → r < d → d ≤ 2 * r
    → (2 * r ≡ d → (q + 1) % 2 ≡ 0) → IsNearest a d (q + 1) j
unfolding Apart
at_next a d q r j p e l h even =
    let f : (q + 1) * d ≡ q * d + d = one_more d q in elim (apart d j (q + 1)) [
      | inl k ↦ (omega (arith, ap (λ y. y * d) k), (λ n t. absurd (n k)))
      | inr k ↦ elim k [
        | inl b ↦ (omega arith, (λ n t. even (omega arith)))
        | inr b ↦ (omega arith, (λ n t. even (omega arith)))
      ]
    ]

halves : (q : ℕ) → (q % 2 ≡ 0) ⊎ (q % 2 ≡ 1)
halves q = grind arith

parity : (q : ℕ) → ((q % 2 ≡ 0) × (q + q % 2 ≡ q)) ⊎ (((q + 1) % 2 ≡ 0) × (q + q % 2 ≡ q + 1))
parity q = elim (halves q) [
  | inl e ↦ inl (e, omega arith)
  | inr e ↦ inr (omega arith, omega arith)
]

nearest : (a d q r j : ℕ) → 0 < d → a ≡ q * d + r → r < d → IsNearest a d (to_nearest d q r) j
nearest a d q r j p e l = elim (nearest_is d q r) [
  | inl k ↦ subst (λ m. IsNearest a d m j) (sym k.1)
      (at_quotient a d q r j p e l (omega arith) (λ t. absurd (omega arith)))
  | inr i ↦ elim i [
    | inl k ↦ subst (λ m. IsNearest a d m j) (sym k.1)
        (at_next a d q r j p e l (omega arith) (λ t. absurd (omega arith)))
    | inr k ↦ elim (parity q) [
      | inl o ↦ subst (λ m. IsNearest a d m j) (sym (k.1 ∙ o.1))
          (at_quotient a d q r j p e l (omega arith) (λ t. o.0))
      | inr o ↦ subst (λ m. IsNearest a d m j) (sym (k.1 ∙ o.1))
          (at_next a d q r j p e l (omega arith) (λ t. o.0))
    ]
  ]
]

-- a natural over d, rounded
abbrev quotient : ℕ → ℕ → ℕ
quotient a d = to_nearest d (a / d) (a % d)

divided : (a d : ℕ) → 0 < d → (a ≡ a / d * d + a % d) × (a % d < d)
divided a d p =
    let e : a / d * d ≡ d * (a / d) = mul_comm (a / d) d in (omega arith, omega arith)

quotient_nearest : (a d j : ℕ) → 0 < d → IsNearest a d (quotient a d) j
quotient_nearest a d j p =
    let k = divided a d p in nearest a d (a / d) (a % d) j p k.0 k.1

quotient_exact : (j d : ℕ) → 0 < d → quotient (j * d) d ≡ j
quotient_exact j d p =
    let e : j * d / d ≡ j = mul-div_cancel j p in
    let k = divided (j * d) d p in
    let r : j * d % d ≡ 0 = omega (arith, k.0, ap (λ y. y * d) e) in
    elim (nearest_is d (j * d / d) (j * d % d)) [
      | inl h ↦ h.1 ∙ e
      | inr i ↦ elim i [ inl h ↦ absurd (omega arith) | inr h ↦ absurd (omega arith) ]
    ]

-- signed numbers
both_positive : (a b : ℕ) → nat_abs (pos a -ℤ pos b) ≡ gap a b
both_positive a b = omega (arith, ints)

then_negative : (a b : ℕ) → nat_abs (pos a -ℤ neg_ℤ (pos b)) ≡ a + b
then_negative a b = omega (arith, ints)

then_positive : (a b : ℕ) → nat_abs (neg_ℤ (pos a) -ℤ pos b) ≡ a + b
then_positive a b = omega (arith, ints)

both_negative : (a b : ℕ) → nat_abs (neg_ℤ (pos a) -ℤ neg_ℤ (pos b)) ≡ gap a b
both_negative a b = omega (arith, ints)

negated_times : (q d : ℕ) → neg_ℤ (pos q) *ℤ pos d ≡ neg_ℤ (pos (q * d))
negated_times zero d = grind arith
negated_times (suc q) d = refl

negated_size : (q : ℕ) → nat_abs (neg_ℤ (pos q)) ≡ q
negated_size zero = refl
negated_size (suc q) = refl

-- the nearest of all, by the signs of the number and of the other
abbrev IsRounded : Fraction → ℤ → Type 0
IsRounded x m =
    (distance x (rounded x) ≤ distance x m)
    × (m ≢ rounded x → distance x (rounded x) ≡ distance x m → nat_abs (rounded x) % 2 ≡ 0)

-- from the distances in naturals
rounded_by : (x : Fraction) (m : ℤ) (q here there : ℕ) → nat_abs (rounded x) ≡ q
    → distance x (rounded x) ≡ here → distance x m ≡ there
    → (here ≤ there) × (m ≢ rounded x → here ≡ there → q % 2 ≡ 0) → IsRounded x m
rounded_by x m q here there i j k h = (
  rw (j, k) h.0,
  (λ n t. ap (λ y. y % 2) i ∙ h.1 n (sym j ∙ t ∙ k)),
)

-- a number with a denominator
abbrev over : ℤ → ℕ → Fraction
over n d = record { numerator = n; denominator = d }

-- a number of the other sign is further away than 0
far_side : (a d j : ℕ) → 0 < d
    → (gap a (quotient a d * d) ≤ a + j * d)
    × (0 < j → gap a (quotient a d * d) ≡ a + j * d → quotient a d % 2 ≡ 0)
far_side a d zero p =
    let k = quotient_nearest a d 0 p in (omega (arith, k.0), (λ l t. absurd (omega arith)))
far_side a d (suc j) p =
    let k = quotient_nearest a d 0 p in
    let e : suc j * d ≡ j * d + d = suc-mul j d in
    (omega (arith, k.0), (λ l t. absurd (omega (arith, k.0))))

is_rounded : (n : ℤ) (d : ℕ) (m : ℤ) → 0 < d → IsRounded (over n d) m
is_rounded (pos a) d (pos j) p =
    let q = quotient (a * 1000) d in
    let k = quotient_nearest (a * 1000) d j p in
    rounded_by (over (pos a) d) (pos j) q (gap (a * 1000) (q * d)) (gap (a * 1000) (j * d)) refl
    (both_positive (a * 1000) (q * d)) (both_positive (a * 1000) (j * d))
    (k.0, (λ n t. k.1 (λ e. n (ap pos e)) t))
is_rounded (pos a) d (negsuc j) p =
    let q = quotient (a * 1000) d in
    let k = far_side (a * 1000) d (suc j) p in
    rounded_by (over (pos a) d) (negsuc j) q (gap (a * 1000) (q * d)) (a * 1000 + suc j * d) refl
    (both_positive (a * 1000) (q * d)) (then_negative (a * 1000) (suc j * d))
    (k.0, (λ n t. k.1 (omega arith) t))
is_rounded (negsuc a) d (pos zero) p =
    let q = quotient (suc a * 1000) d in
    let k = quotient_nearest (suc a * 1000) d 0 p in
    rounded_by (over (negsuc a) d) (pos zero) q (gap (suc a * 1000) (q * d)) (suc a * 1000 + 0 * d)
    (negated_size q)
    (ap (λ y. nat_abs (neg_ℤ (pos (suc a * 1000)) -ℤ y)) (negated_times q d)
    ∙ both_negative (suc a * 1000) (q * d))
    (then_positive (suc a * 1000) (0 * d))
    (omega (arith, k.0), (λ n t. k.1 (λ e. n (ap (λ y. neg_ℤ (pos y)) e)) (omega (arith, t))))
is_rounded (negsuc a) d (pos (suc j)) p =
    let q = quotient (suc a * 1000) d in
    let k = far_side (suc a * 1000) d (suc j) p in
    rounded_by (over (negsuc a) d) (pos (suc j)) q (gap (suc a * 1000) (q * d))
    (suc a * 1000 + suc j * d) (negated_size q)
    (ap (λ y. nat_abs (neg_ℤ (pos (suc a * 1000)) -ℤ y)) (negated_times q d)
    ∙ both_negative (suc a * 1000) (q * d))
    (then_positive (suc a * 1000) (suc j * d))
    (k.0, (λ n t. k.1 (omega arith) t))
is_rounded (negsuc a) d (negsuc j) p =
    let q = quotient (suc a * 1000) d in
    let k = quotient_nearest (suc a * 1000) d (suc j) p in
    rounded_by (over (negsuc a) d) (negsuc j) q (gap (suc a * 1000) (q * d))
    (gap (suc a * 1000) (suc j * d)) (negated_size q)
    (ap (λ y. nat_abs (neg_ℤ (pos (suc a * 1000)) -ℤ y)) (negated_times q d)
    ∙ both_negative (suc a * 1000) (q * d))
    (both_negative (suc a * 1000) (suc j * d))
    (k.0, (λ n t. k.1 (λ e. n (ap (λ y. neg_ℤ (pos y)) e)) t))

pub rounds_to_nearest : RoundsToNearest
rounds_to_nearest x m p = is_rounded x.numerator x.denominator m p

-- a whole number of thousandths
same_quotient : (a j d : ℕ) → 0 < d → a ≡ j * d → quotient a d ≡ j
same_quotient a j d p e = ap (λ y. quotient y d) e ∙ quotient_exact j d p

is_exact : (n : ℤ) (d : ℕ) (m : ℤ) → 0 < d → distance (over n d) m ≡ 0 → rounded (over n d) ≡ m
is_exact (pos a) d (pos j) p e =
    let g : gap (a * 1000) (j * d) ≡ 0 = sym (both_positive (a * 1000) (j * d)) ∙ e in
    ap pos (same_quotient (a * 1000) j d p (omega arith))
is_exact (pos a) d (negsuc j) p e =
    let g : a * 1000 + suc j * d ≡ 0 = sym (then_negative (a * 1000) (suc j * d)) ∙ e in
    let f : suc j * d ≡ j * d + d = suc-mul j d in
    absurd (omega arith)
is_exact (negsuc a) d (pos j) p e =
    let g : suc a * 1000 + j * d ≡ 0 = sym (then_positive (suc a * 1000) (j * d)) ∙ e in
    absurd (omega arith)
is_exact (negsuc a) d (negsuc j) p e =
    let g : gap (suc a * 1000) (suc j * d) ≡ 0 =
    sym (both_negative (suc a * 1000) (suc j * d)) ∙ e in
    ap (λ y. neg_ℤ (pos y)) (same_quotient (suc a * 1000) (suc j) d p (omega arith))

pub exact_is_kept : ExactIsKept
exact_is_kept x m p e = is_exact x.numerator x.denominator m p e

-- serialising
not_zero : (d : ℕ) → 0 < d → (d == 0) ≡ false
not_zero d h = grind (arith, nat_tests)

decimal_step : (x : Fraction) → 0 < x.denominator
    → serialise_decimal x ≡ serialise_rounded (rounded x)
decimal_step x p = rw (not_zero x.denominator p, serialise_decimal) refl

pub rounded_serialises : RoundedSerialises
rounded_serialises x p = (
  (λ h. decimal_step x p ∙ rounded_serialised (rounded x) h),
  (λ h. decimal_step x p ∙ large_fails (rounded x) h),
)

no_distance : (y : ℤ) → nat_abs (y -ℤ y) ≡ 0
no_distance y = omega (arith, ints)

thousandths_kept : (z : ℤ) → rounded (thousandths z) ≡ z
thousandths_kept z = exact_is_kept (thousandths z) z (omega arith) (no_distance (z *ℤ pos 1000))

pub decimal_serialised : DecimalSerialises
decimal_serialised z h =
    decimal_step (thousandths z) (omega arith) ∙ ap serialise_rounded (thousandths_kept z)
    ∙ rounded_serialised z h
