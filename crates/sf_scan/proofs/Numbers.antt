-- Integers, Decimals and Dates, each with the places in it.
use Rattle.std.proofs.Common.{◌≡◌, ◌≢◌, ℕ, ℤ, ◌<◌, ◌≤◌, Bool, true, false, List, [], ◌∷◌, ◌++◌}
use Rattle.std.proofs.Common.{length, refl, sym, ap, ◌∙◌, subst, nat_lt, ◌==◌, ◌&&◌, ◌||◌}
use Rattle.std.proofs.Common.{inl, inr, Result, arith, length-append, append_assoc, append-nil}
use Rattle.sf_value.specs.Ascii.{minus, point, digit_zero, at_sign}
use Rattle.sf_value.specs.declared.dialect.Dialect.{Dialect}
use Rattle.sf_value.specs.declared.value.Bare.{Bare}
use Rattle.sf_value.specs.declared.value.Bare.TheVariants as bare
use Rattle.sf_value.specs.Grammar.Classes.{is_digit}
use Rattle.sf_value.specs.Grammar.Dialects.{is_rfc9651}
use Rattle.sf_value.specs.Grammar.Lines.{Continues}
use Rattle.sf_value.specs.Grammar.Numbers.{sign, signed, value_from, thousandths, AreDigits}
use Rattle.sf_value.specs.Grammar.Numbers.{SpellsInteger}
use Rattle.sf_value.specs.Grammar.Words.{Every}
use Rattle.sf_value.proofs.Words.{every_push}
use Rattle.sf_value.specs.Grammar.BareItems.{SpellsBare}
use Rattle.sf_scan.specs.Leaves.{leaf_bare}
use Rattle.sf_scan.specs.NumberPlaces.{in_number, is_point_after, is_signed_start, is_number_start}
use Rattle.sf_scan.specs.NumberTexts.{IntegerAfterSign, NumberAfterSign}
use Rattle.sf_scan.specs.NumberTexts.{NumberAfterPoint, TakesDigits}
use Rattle.sf_scan.specs.NumberTexts.{PastPoint}
use Rattle.sf_scan.specs.Scans.{ReadsLeaf, RefusesLeaf, ScansLeaf}
use Rattle.sf_scan.specs.Stops.{Past, IsFollowed}
use Rattle.sf_value.specs.Runs.{Lacks}
use Rattle.sf_scan.specs.declared.leaf.Leaf.{Leaf}
use Rattle.sf_scan.specs.declared.number.Digits.{Digits}
use Rattle.sf_scan.specs.declared.number_place.NumberPlace.TheVariants as number
use Rattle.sf_scan.specs.declared.place.Stop.{Stop}
use Rattle.sf_scan.specs.declared.place.BarePlace.{BarePlace}
use Rattle.sf_scan.proofs.Bares.{reads_leaf, refuses_leaf, past_scans, first_byte, begins}
use Rattle.sf_scan.proofs.Beginnings.{begun_scans, same_scans}
use Rattle.sf_scan.proofs.Digits.{DigitTexts, digits_read, digits_refused, stop_at}
use Rattle.sf_scan.proofs.Digits.{some_count, no_count, no_digit_left, inner_digit}
use Rattle.sf_scan.proofs.Languages.{SameTexts}
use Rattle.sf_scan.proofs.Lists.{heads, tails, cons_nil, two_parts, run_once, every_at}
use Rattle.sf_scan.proofs.NumberStarts.{are_digits, no_digits, whole_text}

-- behind the point
fraction_texts : (neg : Bool) (whole : ℕ) → DigitTexts 3 (NumberAfterPoint neg whole)
fraction_texts neg whole = record {
  up = λ t d. (bare.Decimal (thousandths neg whole (length t) (value_from 0 t)), (d, refl));
  down = down;
}
  where
    down : (t : List ℕ) (x : Bare) → NumberAfterPoint neg whole t x → AreDigits 1 3 0 t
    down t (bare.Decimal m) h = h.0
    down t x h = absurd h

pub fraction_read : (d : Dialect) (neg : Bool) (whole : ℕ) (text : List ℕ) (run : Digits) (l : Leaf)
    → TakesDigits 3 text run → run.count ≢ 0
    → leaf_bare l ≡ bare.Decimal (thousandths neg whole run.count run.value)
    → ReadsLeaf d (NumberAfterPoint neg whole) text l (stop_at run (number.Fraction run.count))
fraction_read d neg whole text run l t n v =
    digits_read d 3 (NumberAfterPoint neg whole) (fraction_texts neg whole)
    (number.Fraction run.count) text run l (omega arith) refl refl t n
    (λ w k e a. subst (NumberAfterPoint neg whole w) (sym v) (k, cc))

pub fraction_refused : (d : Dialect) (neg : Bool) (whole : ℕ) (text : List ℕ) (run : Digits)
    → TakesDigits 3 text run → run.count ≡ 0
    → RefusesLeaf d (NumberAfterPoint neg whole) text (stop_at run (number.Fraction run.count))
fraction_refused d neg whole text run t n =
    digits_refused d 3 (NumberAfterPoint neg whole) (fraction_texts neg whole)
    (number.Fraction run.count) text run (omega arith) refl refl t n

-- after a sign: which bytes may follow digits
is_integer : (neg : Bool) (w : List ℕ) → Every is_digit w → 1 ≤ length w → length w ≤ 15
    → Continues (NumberAfterSign neg) w
is_integer neg w h l m = (
  [],
  bare.Integer (signed neg (value_from 0 w)),
  subst (λ t. IntegerAfterSign neg t (signed neg (value_from 0 w))) (sym (append-nil w))
      (are_digits 1 15 w h l m, refl),
)

is_decimal : (neg : Bool) (w : List ℕ) → Every is_digit w → 1 ≤ length w → length w ≤ 12
    → Continues (NumberAfterSign neg) (w ++ point ∷ [])
is_decimal neg w h l m = (
  digit_zero ∷ [],
  bare.Decimal (thousandths neg (value_from 0 w) 1 (value_from 0 (digit_zero ∷ []))),
  (
    w,
    digit_zero ∷ [],
    append_assoc w (point ∷ []) (digit_zero ∷ []),
    are_digits 1 12 w h l m,
    (are_digits 1 3 (digit_zero ∷ []) (refl, tt) (omega arith) (omega arith), refl),
  ),
)

whole_viable : (neg : Bool) (w : List ℕ) → Every is_digit w → length w ≤ 15
    → Continues (NumberAfterSign neg) w
whole_viable neg [] h l =
    let c = is_integer neg (digit_zero ∷ []) (refl, tt) (omega arith) (omega arith) in
    (digit_zero ∷ c.0, c.1, c.2)
whole_viable neg (c ∷ w) h l = is_integer neg (c ∷ w) h (omega arith) l

digit_test : (n b : ℕ) → n < 15 → is_digit b ≡ true → in_number (number.Whole n) b ≡ true
digit_test n b h k = grind arith

point_test : (n b : ℕ) → 1 ≤ n → n ≤ 12 → b ≡ point → in_number (number.Whole n) b ≡ true
point_test n b h k e = grind arith

test_digit : (n b : ℕ) → in_number (number.Whole n) b ≡ true → is_digit b ≡ true → n < 15
test_digit n b h k = grind arith

test_point : (n b : ℕ) → in_number (number.Whole n) b ≡ true → is_digit b ≡ false
    → (1 ≤ n) × (n ≤ 12) × (b ≡ point)
test_point n b h k = grind arith

not_digit : (b : ℕ) → is_digit b ≡ true → b ≡ point → ⊥
not_digit b h e = grind arith

within : (high : ℕ) (v w m : List ℕ) (c : ℕ) → v ≡ w ++ c ∷ m → AreDigits 1 high 0 v
    → (length w < high) × (is_digit c ≡ true)
within high v w m c e d =
    inner_digit 1 high w m c (subst (AreDigits 1 high 0) (e ∙ sym (append_assoc w (c ∷ []) m)) d)

-- a byte after the digits w, in a text that has a point after the digits v
decimal_only : (n : ℕ) (w u v f : List ℕ) (b : ℕ) → n ≡ length w → Every is_digit w
    → AreDigits 1 12 0 v → w ++ b ∷ u ≡ v ++ point ∷ f → in_number (number.Whole n) b ≡ true
decimal_only n w u v f b e h d k = elim (two_parts w (b ∷ u) v (point ∷ f) k) [
  | inl l ↦ longer l.more l.part l.rest
  | inr s ↦ absurd (shorter s.byte s.more s.part s.rest)
]
  where
    longer : (more : List ℕ) → v ≡ w ++ more → b ∷ u ≡ more ++ point ∷ f
        → in_number (number.Whole n) b ≡ true
    longer [] p r =
        let a = d.enough in
        let z = d.fits in
        let q : v ≡ w = p ∙ append-nil w in
        let i = ap length q in
        point_test n b (omega arith) (omega arith) (heads b point u f r)
    longer (c ∷ m) p r =
        let i = within 12 v w m c p d in
        let j = i.0 in
        digit_test n b (omega arith) (ap is_digit (heads b c u _ r) ∙ i.1)

    shorter : (c : ℕ) (m : List ℕ) → w ≡ v ++ c ∷ m → point ∷ f ≡ c ∷ (m ++ b ∷ u) → ⊥
    shorter c m p r =
        let i = every_at is_digit v c m
        (subst (Every is_digit) (p ∙ sym (append_assoc v (c ∷ []) m)) h) in
        not_digit c i (sym (heads point c f _ r))

whole_only : (neg : Bool) (w : List ℕ) (n : ℕ) → n ≡ length w → Every is_digit w → (b : ℕ)
    → Continues (NumberAfterSign neg) (w ++ b ∷ []) → in_number (number.Whole n) b ≡ true
whole_only neg w n e h b c = by c.0 c.1 c.2
  where
    by : (u : List ℕ) (x : Bare) → NumberAfterSign neg ((w ++ b ∷ []) ++ u) x
        → in_number (number.Whole n) b ≡ true
    by u (bare.Integer m) k =
        let i = inner_digit 1 15 w u b k.0 in
        let j = i.0 in
        digit_test n b (omega arith) i.1
    by u (bare.Decimal m) k =
        decimal_only n w u k.0 k.1 b e h k.3 (sym (append_assoc w (b ∷ []) u) ∙ k.2)
    by u x k = absurd k

whole_may : (neg : Bool) (w : List ℕ) (n : ℕ) → n ≡ length w → Every is_digit w → n ≤ 15
    → (b : ℕ) → in_number (number.Whole n) b ≡ true → Continues (NumberAfterSign neg) (w ++ b ∷ [])
whole_may neg w n e h l b k = by (is_digit b) refl
  where
    by : (x : Bool) → is_digit b ≡ x → Continues (NumberAfterSign neg) (w ++ b ∷ [])
    by true i =
        let j = test_digit n b k i in
        is_integer neg (w ++ b ∷ []) (every_push is_digit w b h i)
        (omega (arith, length-append w (b ∷ []))) (omega (arith, length-append w (b ∷ [])))
    by false i =
        let j = test_point n b k i in
        let low = j.0 in
        let high = j.1 in
        subst (λ y. Continues (NumberAfterSign neg) (w ++ y ∷ [])) (sym j.2)
        (is_decimal neg w h (omega arith) (omega arith))

whole_followed : (neg : Bool) (w : List ℕ) (n : ℕ) → n ≡ length w → Every is_digit w → n ≤ 15
    → IsFollowed (NumberAfterSign neg) (in_number (number.Whole n)) w
whole_followed neg w n e h l = record {
  viable = whole_viable neg w h (omega arith);
  may = whole_may neg w n e h l;
  only = whole_only neg w n e h;
}

whole_blocked : (n : ℕ) (t : List ℕ) → (n < 15 → Lacks is_digit t) → Lacks (is_point_after n) t
    → Lacks (in_number (number.Whole n)) t
whole_blocked n [] h k = tt
whole_blocked n (b ∷ t) h k = blocked n b (is_point_after n b) h k
  where
    blocked : (n b : ℕ) (p : Bool) → (n < 15 → is_digit b ≡ false) → p ≡ false
        → ((nat_lt n 15 && is_digit b) || p) ≡ false
    blocked n b p h k = grind arith

no_number : (neg : Bool) (x : Bare) → NumberAfterSign neg [] x → ⊥
no_number neg (bare.Integer n) h = no_digits 15 h.0
no_number neg (bare.Decimal m) h = by h.0 h.2
  where
    by : (w : List ℕ) → [] ≡ w ++ point ∷ h.1 → ⊥
    by [] e = cons_nil _ _ (sym e)
    by (c ∷ w) e = cons_nil _ _ (sym e)
no_number neg x h = h

pub integer_read : (d : Dialect) (neg : Bool) (text : List ℕ) (run : Digits) (l : Leaf)
    → TakesDigits 15 text run → Lacks (is_point_after run.count) run.left.now → run.count ≢ 0
    → leaf_bare l ≡ bare.Integer (signed neg run.value)
    → ReadsLeaf d (NumberAfterSign neg) text l (stop_at run (number.Whole run.count))
integer_read d neg text run l t k n v =
    let p = t.past in
    let a = p.counted in
    let b = p.valued in
    reads_leaf d (NumberAfterSign neg) text p.digits l (stop_at run (number.Whole run.count)) p.split
    (whole_followed neg p.digits run.count a p.each t.within)
    (whole_blocked run.count run.left.now t.longest k)
    (subst (NumberAfterSign neg p.digits) (sym v)
    (are_digits 1 15 p.digits p.each (omega arith) (let k = t.within in omega arith), cc))
    (some_count run.count n)

pub integer_refused : (d : Dialect) (neg : Bool) (text : List ℕ) (run : Digits)
    → TakesDigits 15 text run → Lacks (is_point_after run.count) run.left.now → run.count ≡ 0
    → RefusesLeaf d (NumberAfterSign neg) text (stop_at run (number.Whole run.count))
integer_refused d neg text run t k n =
    let p = t.past in
    refuses_leaf d (NumberAfterSign neg) text p.digits (stop_at run (number.Whole run.count)) p.split
    (whole_followed neg p.digits run.count p.counted p.each t.within)
    (whole_blocked run.count run.left.now t.longest k)
    (λ x h. no_number neg x (subst (λ w. NumberAfterSign neg w x)
    (no_digit_left p.digits run.count p.counted n) h))
    (no_count run.count n)

-- after the point
after_point_of : (neg : Bool) (w f : List ℕ) (x : Bare) → Every is_digit w
    → NumberAfterSign neg ((w ++ point ∷ []) ++ f) x → NumberAfterPoint neg (value_from 0 w) f x
after_point_of neg w f (bare.Integer n) h k =
    absurd (not_digit point (inner_digit 1 15 w f point k.0).1 refl)
after_point_of neg w f (bare.Decimal m) h k =
    let s = run_once is_digit w (point ∷ f) k.0 (point ∷ k.1) h refl k.3.each refl
    (sym (append_assoc w (point ∷ []) f) ∙ k.2) in
    let same_digits = s.part in
    let same_rest : f ≡ k.1 = tails point point f k.1 s.rest in
    let value = k.4.1 in
    (subst (AreDigits 1 3 0) (sym same_rest) k.4.0, cc)
after_point_of neg w f x h k = absurd k

point_texts : (neg : Bool) (w : List ℕ) → AreDigits 1 12 0 w
    → SameTexts (NumberAfterPoint neg (value_from 0 w)) (Past (w ++ point ∷ []) (NumberAfterSign neg))
    (λ x. x)
point_texts neg w d = record { up = up; down = λ t x h. (x, after_point_of neg w t x d.each h) }
  where
    up : (t : List ℕ) (x : Bare) → NumberAfterPoint neg (value_from 0 w) t x
        → Past (w ++ point ∷ []) (NumberAfterSign neg) t x
    up t (bare.Decimal m) h = (w, t, append_assoc w (point ∷ []) t, d, h)
    up t x h = absurd h

pub point_scans : (d : Dialect) (neg : Bool) (text rest : List ℕ) (run : Digits)
    (r : Result (Stop BarePlace × Leaf) (Stop BarePlace)) → TakesDigits 15 text run
    → PastPoint run.count run.left.now rest
    → ScansLeaf d (NumberAfterPoint neg run.value) rest r → ScansLeaf d (NumberAfterSign neg) text r
point_scans d neg text rest run r t q h =
    let p = t.past in
    let a = p.counted in
    let low = q.some in
    let high = q.few in
    past_scans d (NumberAfterSign neg) (p.digits ++ point ∷ []) rest text r
    (p.split ∙ (ap (λ x. p.digits ++ x) q.split ∙ sym (append_assoc p.digits (point ∷ []) rest)))
    (same_scans d (NumberAfterPoint neg (value_from 0 p.digits)) _ rest r
    (point_texts neg p.digits (are_digits 1 12 p.digits p.each (omega arith) (omega arith)))
    (subst (λ v. ScansLeaf d (NumberAfterPoint neg v) rest r) p.valued h))

-- what the sign or the first digit tells
not_minus : (b : ℕ) → is_digit b ≡ true → b ≡ minus → ⊥
not_minus b h e = grind arith

sign_minus : (neg : Bool) (t w rest : List ℕ) (high : ℕ) → minus ∷ t ≡ sign neg ++ (w ++ rest)
    → AreDigits 1 high 0 w → (neg ≡ true) × (t ≡ w ++ rest)
sign_minus true t w rest high e d = (refl, tails minus minus t (w ++ rest) e)
sign_minus false t [] rest high e d = absurd (no_digits high d)
sign_minus false t (c ∷ w) rest high e d =
    absurd (not_minus c d.each.0 (sym (heads minus c t (w ++ rest) e)))

sign_digit : (neg : Bool) (b : ℕ) (t w rest : List ℕ) → is_digit b ≡ true
    → b ∷ t ≡ sign neg ++ (w ++ rest) → (neg ≡ false) × (b ∷ t ≡ w ++ rest)
sign_digit true b t w rest h e = absurd (not_minus b h (heads b minus t (w ++ rest) e))
sign_digit false b t w rest h e = (refl, e)

pub integer_after_minus : (t : List ℕ) (n : ℤ) → SpellsInteger (minus ∷ t) n → IntegerAfterSign true t n
integer_after_minus t n h =
    let s = sign_minus h.0 t h.1 [] 15 (whole_text h.0 (minus ∷ t) h.1 h.2) h.3 in
    let negative = s.0 in
    let same : t ≡ h.1 = s.1 ∙ append-nil h.1 in
    let value = h.4 in
    (subst (AreDigits 1 15 0) (sym same) h.3, cc)

pub integer_at_digit : (b : ℕ) (t : List ℕ) (n : ℤ) → is_digit b ≡ true → SpellsInteger (b ∷ t) n
    → IntegerAfterSign false (b ∷ t) n
integer_at_digit b t n i h =
    let s = sign_digit h.0 b t h.1 [] i (whole_text h.0 (b ∷ t) h.1 h.2) in
    let positive = s.0 in
    let same : b ∷ t ≡ h.1 = s.1 ∙ append-nil h.1 in
    let value = h.4 in
    (subst (AreDigits 1 15 0) (sym same) h.3, cc)

number_after_minus : (d : Dialect) (t : List ℕ) (x : Bare) → SpellsBare d (minus ∷ t) x
    → begins d x minus ≡ true → NumberAfterSign true t x
number_after_minus d t (bare.Integer n) h k = integer_after_minus t n h
number_after_minus d t (bare.Decimal m) h k =
    let s = sign_minus h.0 t h.1 (point ∷ h.2) 12 h.3 h.4 in
    let negative = s.0 in
    let value = h.6 in
    (h.1, h.2, s.1, h.4, (h.5, cc))
number_after_minus d t x h k = absurd (cc k)

number_at_digit : (d : Dialect) (b : ℕ) (t : List ℕ) (x : Bare) → is_digit b ≡ true
    → SpellsBare d (b ∷ t) x → begins d x b ≡ true → NumberAfterSign false (b ∷ t) x
number_at_digit d b t (bare.Integer n) i h k = integer_at_digit b t n i h
number_at_digit d b t (bare.Decimal m) i h k =
    let s = sign_digit h.0 b t h.1 (point ∷ h.2) i h.3 in
    let positive = s.0 in
    let value = h.6 in
    (h.1, h.2, s.1, h.4, (h.5, cc))
number_at_digit d b t x i h k = absurd (grind arith)

spells_number : (d : Dialect) (neg : Bool) (t : List ℕ) (x : Bare) → NumberAfterSign neg t x
    → SpellsBare d (sign neg ++ t) x
spells_number d neg t (bare.Integer n) h = (neg, t, refl, h.0, h.1)
spells_number d neg t (bare.Decimal m) h =
    (neg, h.0, h.1, ap (λ y. sign neg ++ y) h.2, h.3, h.4.0, h.4.1)
spells_number d neg t x h = absurd h

pub minus_texts : (d : Dialect) → SameTexts (NumberAfterSign true) (Past (minus ∷ []) (SpellsBare d)) (λ x. x)
minus_texts d = record {
  up = λ t x h. spells_number d true t x h;
  down = λ t x h. (x, number_after_minus d t x h (first_byte d minus t x h));
}

pub digit_texts : (d : Dialect) (b : ℕ) → is_digit b ≡ true
    → SameTexts (Past (b ∷ []) (NumberAfterSign false)) (Past (b ∷ []) (SpellsBare d)) (λ x. x)
digit_texts d b i = record {
  up = λ t x h. spells_number d false (b ∷ t) x h;
  down = λ t x h. (x, number_at_digit d b t x i h (first_byte d b t x h));
}

pub minus_scans : (d : Dialect) (text more : List ℕ) (r : Result (Stop BarePlace × Leaf) (Stop BarePlace))
    → text ≡ minus ∷ more → ScansLeaf d (NumberAfterSign true) more r
    → ScansLeaf d (SpellsBare d) text r
minus_scans d text more r e h =
    past_scans d (SpellsBare d) (minus ∷ []) more text r e
    (same_scans d (NumberAfterSign true) _ more r (minus_texts d) h)

pub digit_scans : (d : Dialect) (text more : List ℕ) (b : ℕ) (r : Result (Stop BarePlace × Leaf) (Stop BarePlace))
    → text ≡ b ∷ more → is_digit b ≡ true → ScansLeaf d (NumberAfterSign false) text r
    → ScansLeaf d (SpellsBare d) text r
digit_scans d text more b r e i h =
    begun_scans d (NumberAfterSign false) (SpellsBare d) b more text r e
    (is_integer false (b ∷ []) (i, tt) (omega arith) (omega arith)) (digit_texts d b i) h

-- no number begins
pub no_number_start : (d : Dialect) (b : ℕ) → is_digit b ≡ false → b ≢ minus
    → (b == at_sign && is_rfc9651 d) ≡ false → is_number_start d b ≡ false
no_number_start d b h m k = none b (b == at_sign && is_rfc9651 d) h m k
  where
    none : (b : ℕ) (c : Bool) → is_digit b ≡ false → b ≢ minus → c ≡ false
        → (is_signed_start b || c) ≡ false
    none b c h m k = grind arith
