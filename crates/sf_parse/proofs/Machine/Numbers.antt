-- Numbers are read by their machine.
use Rattle.std.proofs.Common.{◌≡◌, ℕ, zero, suc, ◌+◌, ◌-◌, ◌*◌, ◌<◌, ◌≤◌, ◌^◌, ℤ, pos, Bool, true}
use Rattle.std.proofs.Common.{false, ◌==◌, nat_le, nat_lt, ◌&&◌, List, [], ◌∷◌, ◌++◌, length, Some}
use Rattle.std.proofs.Common.{None, ⊎_elim, refl, sym, ap, ◌∙◌, subst, ◌↔◌, ◌⊎◌, inl, inr, arith}
use Rattle.std.proofs.Math.Nat.{pow-le-pow_right}
use Rattle.sf_value.specs.Grammar.Words.{allow}
use Rattle.sf_value.specs.Grammar.Classes.{is_digit}
use Rattle.sf_value.specs.Grammar.Numbers.{sign, signed, SpellsInteger, SpellsDecimal, value_from}
use Rattle.sf_value.specs.Grammar.Numbers.{AreDigits, thousandths}
use Rattle.sf_value.specs.declared.value.Bare.{Bare}
use Rattle.sf_value.specs.declared.value.Bare.TheVariants.{Integer, Decimal}
use Rattle.sf_parse.specs.Machine.Language.{Either, After, Reads, Live}
use Rattle.sf_parse.specs.Machine.Numbers.{NumberState, Whole, Fraction, DateState, Digits, Sign}
use Rattle.sf_parse.specs.Machine.Numbers.{SpellsNumber, number_start, ResidualDate, GoodDate}
use Rattle.sf_parse.specs.Machine.Numbers.{digits_step, date_step, date_finish, ResidualInteger}
use Rattle.sf_parse.specs.Machine.Numbers.{ResidualFraction, ResidualDecimal, ResidualNumber}
use Rattle.sf_parse.specs.Machine.Numbers.{FitsDigits}
use Rattle.sf_parse.specs.Machine.Numbers.{GoodNumber, number_step, number_finish}
use Rattle.sf_parse.proofs.Machine.Language.{reads_iff, reads_either, reads_after}
use Rattle.sf_value.proofs.Words.{allow_cases}

fraction_taken : (neg : Bool) (whole count a b : ℕ) (u : List ℕ) (v : Bare)
    → ResidualNumber (Fraction neg whole count a) (b ∷ u) v
    → (s : NumberState) × (number_step (Fraction neg whole count a) b ≡ Some s)
    × ResidualNumber s u v
fraction_taken neg whole count a b u v h = (
  Fraction neg whole (count + 1) (10 * a + (b - 48)),
  grind arith,
  grind arith,
)

fraction_gives : (neg : Bool) (whole count a b : ℕ) (u : List ℕ) (v : Bare) (s : NumberState)
    → number_step (Fraction neg whole count a) b ≡ Some s → ResidualNumber s u v
    → ResidualNumber (Fraction neg whole count a) (b ∷ u) v
fraction_gives neg whole count a b u v s n h = grind arith

-- one more digit
digit_room : (b count most : ℕ) → (is_digit b && nat_lt count most) ≡ true
    → (b - 48 < 10) × (count < most)
digit_room b count most e = grind arith

pub next_digit : (count a x : ℕ) → a < 10 ^ count → x < 10 → 10 * a + x < 10 ^ (count + 1)
next_digit count a x h k = let e : 10 ^ suc count ≡ 10 * 10 ^ count = omega arith in
    let i : suc count ≡ count + 1 = omega arith in subst (λ y. 10 * a + x < 10 ^ y) i (omega arith)

counted_next : (most count a b : ℕ) → FitsDigits most count a
    → (is_digit b && nat_lt count most) ≡ true → FitsDigits most (count + 1) (10 * a + (b - 48))
counted_next most count a b g e = let k = digit_room b count most e in
    (omega arith, next_digit count a (b - 48) g.1 k.0)

-- fewer digits are below more
pub counted_below : (most count a : ℕ) → a < 10 ^ count → count ≤ most → a < 10 ^ most
counted_below most count a h k = let ten : 0 < 10 = omega arith in
    let p : 10 ^ count ≤ 10 ^ most = pow-le-pow_right ten k in omega arith

fraction_good : (neg : Bool) (whole count a b : ℕ) (s : NumberState)
    → GoodNumber (Fraction neg whole count a) → number_step (Fraction neg whole count a) b ≡ Some s
    → GoodNumber s
fraction_good neg whole count a b s g n = let k = allow_cases (is_digit b && nat_lt count 3)
    (Fraction neg whole (count + 1) (10 * a + (b - 48))) s n in
    subst GoodNumber (sym k.1) (counted_next 3 count a b g.0 k.0, g.1)

fraction_ends : (neg : Bool) (whole count a : ℕ) (v : Bare)
    → ResidualNumber (Fraction neg whole count a) [] v
    → number_finish (Fraction neg whole count a) ≡ Some v
fraction_ends neg whole count a v h = grind arith

fraction_ended : (neg : Bool) (whole count a : ℕ) (v : Bare) → count ≤ 3
    → number_finish (Fraction neg whole count a) ≡ Some v
    → ResidualNumber (Fraction neg whole count a) [] v
fraction_ended neg whole count a v g e = (thousandths neg whole count a, grind arith, grind arith)

not_nil : (w f : List ℕ) (c : ℕ) → [] ≡ w ++ c ∷ f → ⊥
not_nil [] f c e = cc
not_nil (d ∷ w) f c e = cc

integer_taken : (neg : Bool) (count a b : ℕ) (u : List ℕ) (v : Bare) (n : ℤ) → v ≡ Integer n
    → ResidualInteger neg count a (b ∷ u) n
    → (s : NumberState) × (number_step (Whole neg count a) b ≡ Some s) × ResidualNumber s u v
integer_taken neg count a b u v n e h = (
  Whole neg (count + 1) (10 * a + (b - 48)),
  grind arith,
  inl (n, e, grind arith),
)

decimal_taken : (neg : Bool) (count a b : ℕ) (u : List ℕ) (v : Bare) (m : ℤ) (w f : List ℕ)
    → v ≡ Decimal m → b ∷ u ≡ w ++ 46 ∷ f → AreDigits 1 12 count w
    → ResidualFraction neg (value_from a w) 0 0 f m
    → (s : NumberState) × (number_step (Whole neg count a) b ≡ Some s) × ResidualNumber s u v
decimal_taken neg count a b u v m [] f e t d h = (
  Fraction neg a 0 0,
  grind arith,
  (m, e, grind arith),
)
decimal_taken neg count a b u v m (c ∷ w) f e t d h = (
  Whole neg (count + 1) (10 * a + (b - 48)),
  grind arith,
  inr (m, e, (w, f, grind arith, grind arith, grind arith)),
)

integer_gives : (neg : Bool) (count a b : ℕ) (u : List ℕ) (n : ℤ) → is_digit b ≡ true
    → ResidualInteger neg (count + 1) (10 * a + (b - 48)) u n
    → ResidualInteger neg count a (b ∷ u) n
integer_gives neg count a b u n d h = grind arith

decimal_gives : (neg : Bool) (count a b : ℕ) (u : List ℕ) (m : ℤ) → is_digit b ≡ true
    → ResidualDecimal neg (count + 1) (10 * a + (b - 48)) u m
    → ResidualDecimal neg count a (b ∷ u) m
decimal_gives neg count a b u m d h = (b ∷ h.0, h.1, ap (λ y. b ∷ y) h.2, grind arith, h.4)

point_gives : (neg : Bool) (count a : ℕ) (u : List ℕ) (m : ℤ) → 1 ≤ count → count ≤ 12
    → ResidualFraction neg a 0 0 u m → ResidualDecimal neg count a (46 ∷ u) m
point_gives neg count a u m low high h = ([], u, refl, grind arith, h)

whole_cases : (neg : Bool) (count a b : ℕ) (s : NumberState)
    → number_step (Whole neg count a) b ≡ Some s
    → ((is_digit b ≡ true) × ((is_digit b && nat_lt count 15) ≡ true)
    × (s ≡ Whole neg (count + 1) (10 * a + (b - 48)))) ⊎ ((b ≡ 46) × (1 ≤ count) × (count ≤ 12)
    × (s ≡ Fraction neg a 0 0))
whole_cases neg count a b s n = grind arith

whole_gives : (neg : Bool) (count a b : ℕ) (u : List ℕ) (v : Bare) (s : NumberState)
    → number_step (Whole neg count a) b ≡ Some s → ResidualNumber s u v
    → ResidualNumber (Whole neg count a) (b ∷ u) v
whole_gives neg count a b u v s n h = ⊎_elim
    (λ k. ⊎_elim (λ r. inl (r.0, r.1, integer_gives neg count a b u r.0 k.0 r.2)) (λ r. inr (
      r.0,
      r.1,
      decimal_gives neg count a b u r.0 k.0 r.2,
    )) (subst (λ y. ResidualNumber y u v) k.2 h))
    (λ k. let r = subst (λ y. ResidualNumber y u v) k.3 h in
    inr (
      r.0,
      r.1,
      subst (λ y. ResidualDecimal neg count a (y ∷ u) r.0) (sym k.0)
          (point_gives neg count a u r.0 k.1 k.2 r.2),
    ))
    (whole_cases neg count a b s n)

whole_good : (neg : Bool) (count a b : ℕ) (s : NumberState) → FitsDigits 15 count a
    → number_step (Whole neg count a) b ≡ Some s → GoodNumber s
whole_good neg count a b s g n = ⊎_elim
    (λ k. subst GoodNumber (sym k.2) (counted_next 15 count a b g k.1))
    (λ k. subst GoodNumber (sym k.3) ((omega arith, omega arith), counted_below 12 count a g.1 k.2))
    (whole_cases neg count a b s n)

ends_integer : (neg : Bool) (count a : ℕ) (v : Bare) (n : ℤ) → v ≡ Integer n
    → ResidualInteger neg count a [] n → number_finish (Whole neg count a) ≡ Some v
ends_integer neg count a v n e h = grind arith

whole_ends : (neg : Bool) (count a : ℕ) (v : Bare) → ResidualNumber (Whole neg count a) [] v
    → number_finish (Whole neg count a) ≡ Some v
whole_ends neg count a v (inl h) = ends_integer neg count a v h.0 h.1 h.2
whole_ends neg count a v (inr h) = absurd (not_nil h.2.0 h.2.1 46 h.2.2)

whole_ended : (neg : Bool) (count a : ℕ) (v : Bare) → count ≤ 15
    → number_finish (Whole neg count a) ≡ Some v → ResidualNumber (Whole neg count a) [] v
whole_ended neg count a v g e = inl (signed neg a, grind arith, grind arith)

pub number_reads : (s : NumberState) → GoodNumber s
    → Reads NumberState Bare GoodNumber ResidualNumber (ResidualNumber s) (number_step s)
    (number_finish s)
number_reads (Whole neg count a) g = record {
  taken = λ b u v. ⊎_elim (λ h. integer_taken neg count a b u v h.0 h.1 h.2)
      (λ h. decimal_taken neg count a b u v h.0 h.2.0 h.2.1 h.1 h.2.2 h.2.3 h.2.4);
  gives = whole_gives neg count a;
  good = λ b s. whole_good neg count a b s g;
  ends = whole_ends neg count a;
  ended = λ v. whole_ended neg count a v g.0;
}
number_reads (Fraction neg whole count a) g = record {
  taken = fraction_taken neg whole count a;
  gives = fraction_gives neg whole count a;
  good = λ b s. fraction_good neg whole count a b s g;
  ends = fraction_ends neg whole count a;
  ended = λ v. fraction_ended neg whole count a v g.0.0;
}

-- a digit completes a number, unless it may end
pub number_lives : (s : NumberState) → GoodNumber s → Live Bare (ResidualNumber s)
number_lives (Whole neg zero a) g = let h = g.0 in
    record {
      text = 48 ∷ [];
      value = Integer (signed neg (10 * a + 0));
      whole = inl (
        signed neg (10 * a + 0),
        refl,
        (record { each = (refl, tt); enough = omega arith; fits = omega arith }, refl),
      );
    }
number_lives (Whole neg (suc count) a) g = let h = g.0 in
    record {
      text = [];
      value = Integer (signed neg a);
      whole = inl (
        signed neg a,
        refl,
        (record { each = tt; enough = omega arith; fits = omega arith }, refl),
      );
    }
number_lives (Fraction neg whole zero a) g = let h = g.0.0 in
    record {
      text = 48 ∷ [];
      value = Decimal (thousandths neg whole 1 (10 * a + 0));
      whole = (
        thousandths neg whole 1 (10 * a + 0),
        refl,
        (record { each = (refl, tt); enough = omega arith; fits = omega arith }, refl),
      );
    }
number_lives (Fraction neg whole (suc count) a) g = let h = g.0.0 in
    record {
      text = [];
      value = Decimal (thousandths neg whole (suc count + 0) a);
      whole = (
        thousandths neg whole (suc count + 0) a,
        refl,
        (record { each = tt; enough = omega arith; fits = omega arith }, refl),
      );
    }

-- the start of a number
at_zero : (neg : Bool) (w f : List ℕ) (m : ℤ)
    → m ≡ thousandths neg (value_from 0 w) (length f) (value_from 0 f)
    → m ≡ thousandths neg (value_from 0 w) (0 + length f) (value_from 0 f)
at_zero neg w f m i = i
    ∙ ap (λ n. thousandths neg (value_from 0 w) n (value_from 0 f)) (let e : length f
    ≡ 0 + length f = omega arith in
    e)

of_zero : (neg : Bool) (w f : List ℕ) (m : ℤ)
    → m ≡ thousandths neg (value_from 0 w) (0 + length f) (value_from 0 f)
    → m ≡ thousandths neg (value_from 0 w) (length f) (value_from 0 f)
of_zero neg w f m i = i
    ∙ ap (λ n. thousandths neg (value_from 0 w) n (value_from 0 f)) (let e : 0 + length f
    ≡ length f = omega arith in
    e)

number_both : (t : List ℕ) (v : Bare)
    → Either (After 45 (ResidualNumber (Whole true 0 0)))
    (ResidualNumber (Whole false 0 0)) t v ↔ SpellsNumber t v
number_both t v = (
  ⊎_elim
      (λ h. ⊎_elim (λ k. inl (k.0, k.1, (true, h.0, h.1, k.2.0, k.2.1))) (λ k. inr (
        k.0,
        k.1,
        negative h.0 h.1 k.0 k.2,
      )) h.2)
      (⊎_elim (λ k. inl (k.0, k.1, (false, t, refl, k.2.0, k.2.1))) (λ k. inr (
        k.0,
        k.1,
        (false, k.2.0, k.2.1, k.2.2, k.2.3, k.2.4.0, of_zero false k.2.0 k.2.1 k.0 k.2.4.1),
      ))),
  ⊎_elim (λ h. an_integer t v h.0 h.1 h.2.0 h.2.1 h.2.2 h.2.3 h.2.4)
      (λ h. a_decimal t v h.0 h.1 h.2.0 h.2.1 h.2.2 h.2.3 h.2.4 h.2.5 h.2.6),
)
  where
    negative : (suffix : List ℕ) → t ≡ 45 ∷ suffix → (m : ℤ) → ResidualDecimal true 0 0 suffix m
        → SpellsDecimal t m
    negative suffix e m k = (
      true,
      k.0,
      k.1,
      e
          ∙ ap (λ y. 45 ∷ y) k.2,
      k.3,
      k.4.0,
      of_zero true k.0 k.1 m k.4.1,
    )

    an_integer : (t : List ℕ) (v : Bare) (n : ℤ) → v ≡ Integer n → (neg : Bool) (w : List ℕ)
        → t ≡ sign neg ++ w → AreDigits 1 15 0 w → n ≡ signed neg (value_from 0 w)
        → Either (After 45 (ResidualNumber (Whole true 0 0))) (ResidualNumber (Whole false 0 0)) t v
    an_integer t v n e true w k d i = inl (w, k, inl (n, e, (d, i)))
    an_integer t v n e false w k d i = inr (inl (
      n,
      e,
      (
        subst (AreDigits 1 15 0) (sym k) d,
        i
            ∙ ap (λ y. pos (value_from 0 y)) (sym k),
      ),
    ))

    a_decimal : (t : List ℕ) (v : Bare) (m : ℤ) → v ≡ Decimal m → (neg : Bool) (w f : List ℕ)
        → t ≡ sign neg ++ (w ++ 46 ∷ f) → AreDigits 1 12 0 w → AreDigits 1 3 0 f
        → m ≡ thousandths neg (value_from 0 w) (length f) (value_from 0 f)
        → Either (After 45 (ResidualNumber (Whole true 0 0))) (ResidualNumber (Whole false 0 0)) t v
    a_decimal t v m e true w f k d d' i = inl (
      w ++ 46 ∷ f,
      k,
      inr (m, e, (w, f, refl, d, (d', at_zero true w f m i))),
    )
    a_decimal t v m e false w f k d d' i = inr (inr (
      m,
      e,
      (w, f, k, d, (d', at_zero false w f m i)),
    ))

pub number_starts : Reads NumberState Bare GoodNumber ResidualNumber SpellsNumber number_start None
number_starts = reads_iff number_both (reads_either (reads_after 45 (Whole true 0 0) (
  omega arith,
  omega arith,
)) (number_reads (Whole false 0 0) (
  omega arith,
  omega arith,
)) apart (λ v w. λ e. absurd cc))
  where
    apart : (b : ℕ) (s t : NumberState) → allow (b == 45) (Whole true 0 0) ≡ Some s
        → number_step (Whole false 0 0) b ≡ Some t → ⊥
    apart b s t e n = grind arith

-- dates
digits_taken : (neg : Bool) (count a b : ℕ) (u : List ℕ) (n : ℤ)
    → ResidualDate (Digits neg count a) (b ∷ u) n
    → (s : DateState) × (digits_step neg count a b ≡ Some s) × ResidualDate s u n
digits_taken neg count a b u n h = (
  Digits neg (count + 1) (10 * a + (b - 48)),
  grind arith,
  grind arith,
)

digits_gives : (neg : Bool) (count a b : ℕ) (u : List ℕ) (n : ℤ) (s : DateState)
    → digits_step neg count a b ≡ Some s → ResidualDate s u n
    → ResidualDate (Digits neg count a) (b ∷ u) n
digits_gives neg count a b u n s e h = grind arith

digits_good : (neg : Bool) (count a b : ℕ) (s : DateState) → FitsDigits 15 count a
    → digits_step neg count a b ≡ Some s → GoodDate s
digits_good neg count a b s g n = let k = allow_cases (is_digit b && nat_lt count 15)
    (Digits neg (count + 1) (10 * a + (b - 48))) s n in
    subst GoodDate (sym k.1) (counted_next 15 count a b g k.0)

digits_ends : (neg : Bool) (count a : ℕ) (n : ℤ) → ResidualDate (Digits neg count a) [] n
    → date_finish (Digits neg count a) ≡ Some n
digits_ends neg count a v h = grind arith

digits_ended : (neg : Bool) (count a : ℕ) (n : ℤ) → count ≤ 15
    → date_finish (Digits neg count a) ≡ Some n → ResidualDate (Digits neg count a) [] n
digits_ended neg count a n g e = grind arith

digits_read : (neg : Bool) (count a : ℕ) → FitsDigits 15 count a
    → Reads DateState ℤ GoodDate ResidualDate (ResidualInteger neg count a)
    (digits_step neg count a)
    (allow (nat_le 1 count) (signed neg a))
digits_read neg count a g = record {
  taken = digits_taken neg count a;
  gives = digits_gives neg count a;
  good = λ b s. digits_good neg count a b s g;
  ends = digits_ends neg count a;
  ended = λ v. digits_ended neg count a v g.0;
}

integer_both : (t : List ℕ) (n : ℤ)
    → Either (After 45 (ResidualInteger true 0 0)) (ResidualInteger false 0 0) t n
    ↔ SpellsInteger t n
integer_both t n = (
  ⊎_elim (λ h. (true, h.0, h.1, h.2.0, h.2.1)) (λ h. (false, t, refl, h.0, h.1)),
  λ h. other h.0 h.1 h.2 h.3 h.4,
)
  where
    other : (neg : Bool) (w : List ℕ) → t ≡ sign neg ++ w → AreDigits 1 15 0 w
        → n ≡ signed neg (value_from 0 w)
        → Either (After 45 (ResidualInteger true 0 0)) (ResidualInteger false 0 0) t n
    other true w k d i = inl (w, k, (d, i))
    other false w k d i = inr (
      subst (AreDigits 1 15 0) (sym k) d,
      i
          ∙ ap (λ y. pos (value_from 0 y)) (sym k),
    )

sign_reads : Reads DateState ℤ GoodDate ResidualDate (ResidualDate Sign) (date_step Sign) None
sign_reads = reads_iff integer_both (reads_either (reads_after 45 (Digits true 0 0) (
  omega arith,
  omega arith,
)) (digits_read false 0 0 (omega arith, omega arith)) apart (λ v w. λ e. absurd cc))
  where
    apart : (b : ℕ) (s t : DateState) → allow (b == 45) (Digits true 0 0) ≡ Some s
        → digits_step false 0 0 b ≡ Some t → ⊥
    apart b s t e n = grind arith

pub date_reads : (s : DateState) → GoodDate s
    → Reads DateState ℤ GoodDate ResidualDate (ResidualDate s) (date_step s) (date_finish s)
date_reads (Digits neg count a) g = digits_read neg count a g
date_reads Sign g = sign_reads

pub date_lives : (s : DateState) → GoodDate s → Live ℤ (ResidualDate s)
date_lives (Digits neg zero a) g = let h = g.0 in
    record {
      text = 48 ∷ [];
      value = signed neg (10 * a + 0);
      whole = (
        record {
          each = (
            refl,
            tt,
          );
          enough = omega arith;
          fits = omega arith;
        },
        refl,
      );
    }
date_lives (Digits neg (suc count) a) g = let h = g.0 in
    record {
      text = [];
      value = signed neg a;
      whole = (
        record { each = tt; enough = omega arith; fits = omega arith },
        refl,
      );
    }
date_lives Sign g = record {
  text = 48 ∷ [];
  value = signed false 0;
  whole = (
    false,
    48 ∷ [],
    refl,
    record { each = (refl, tt); enough = omega arith; fits = omega arith },
    refl,
  );
}
