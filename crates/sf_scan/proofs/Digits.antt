-- Runs of digits: their values, and what may follow them.
use Rattle.std.proofs.Common.{◌≡◌, ◌≢◌, ℕ, zero, suc, ◌+◌, ◌-◌, ◌*◌, ◌^◌, ◌<◌, ◌≤◌, true, false, List, [], ◌∷◌}
use Rattle.std.proofs.Common.{◌++◌, length, refl, sym, ap, ◌∙◌, subst, nat_lt, nat_le, ◌&&◌, arith}
use Rattle.std.proofs.Common.{length-append, append_assoc, append-nil, get_or, drop}
use Rattle.std.proofs.Math.Seq.{drop-cons}
use Rattle.std.proofs.Math.Nat.{pow-le-pow_right}
use Rattle.std.proofs.lemmas.Grind.{pow_more}
use Rattle.sf_value.specs.Ascii.{digit_zero}
use Rattle.sf_value.specs.Grammar.Classes.{is_digit}
use Rattle.sf_value.specs.Grammar.Lines.{Continues}
use Rattle.sf_value.specs.Grammar.Numbers.{value_from, AreDigits}
use Rattle.sf_value.specs.Grammar.Words.{Every}
use Rattle.sf_value.proofs.Words.{every_push}
use Rattle.sf_value.specs.declared.dialect.Dialect.{Dialect}
use Rattle.sf_value.specs.declared.value.Bare.{Bare}
use Rattle.sf_scan.specs.Leaves.{leaf_bare}
use Rattle.sf_scan.specs.NumberPlaces.{in_number, ends_number}
use Rattle.sf_scan.specs.NumberTexts.{BeginsDigit, PastDigits, TakesDigits}
use Rattle.sf_scan.specs.Scans.{ReadsLeaf, RefusesLeaf}
use Rattle.sf_scan.specs.declared.leaf.Leaf.{Leaf}
use Rattle.sf_scan.specs.declared.number.Digits.{Digits}
use Rattle.sf_scan.specs.declared.number_place.NumberPlace.{NumberPlace}
use Rattle.sf_scan.specs.declared.place.BarePlace.TheVariants as place
use Rattle.sf_scan.specs.declared.place.Stop.{Stop}
use Rattle.sf_scan.specs.declared.place.BarePlace.{BarePlace}
use Rattle.sf_scan.proofs.Bares.{reads_leaf, refuses_leaf}
use Rattle.sf_scan.specs.Stops.{IsFollowed}
use Rattle.sf_value.specs.Runs.{Lacks}
use Rattle.sf_scan.proofs.Lists.{every_at}
use Rattle.sf_scan.proofs.NumberStarts.{are_digits, no_digits}

-- so many digits bound the value
below : (count most value : ℕ) → value < 10 ^ count → count ≤ most → value < 10 ^ most
below count most value h k =
    let ten : 0 < 10 = omega arith in
    omega (arith, pow-le-pow_right ten k)

pub room : (count most value : ℕ) → value < 10 ^ count → count < most → most ≤ 15 → value < 10 ^ 14
room count most value h k m = below count 14 value h (omega arith)

pub fits_whole : (count value : ℕ) → value < 10 ^ count → count ≤ 12 → value < 10 ^ 12
fits_whole count value = below count 12 value

pub fits : (count value : ℕ) → value < 10 ^ count → count ≤ 15 → value < 10 ^ 15
fits count value = below count 15 value

-- one more digit
value_push : (a : ℕ) (w : List ℕ) (b : ℕ)
    → value_from a (w ++ b ∷ []) ≡ 10 * value_from a w + (b - digit_zero)
value_push a [] b = refl
value_push a (c ∷ w) b = value_push (10 * a + (c - digit_zero)) w b

digit_value : (b : ℕ) → is_digit b ≡ true → b - digit_zero < 10
digit_value b h = grind arith

pub begins_small : (text rest : List ℕ) (x : ℕ) → BeginsDigit text x rest → x < 10
begins_small text rest x b = let i : x ≡ b.0 - digit_zero = b.3 in
    let j = digit_value b.0 b.2 in omega arith

next_small : (count value x : ℕ) → value < 10 ^ count → x < 10 → 10 * value + x < 10 ^ (count + 1)
next_small count value x h k = omega (arith, pow_more 10 count)

pub past_none : (text : List ℕ) → PastDigits text 0 0 text
past_none text = record {
  digits = [];
  split = refl;
  each = tt;
  counted = refl;
  valued = refl;
  small = omega arith;
}

pub past_digit : (text rest more : List ℕ) (count value x : ℕ) → PastDigits text count value rest
    → BeginsDigit rest x more → PastDigits text (count + 1) (10 * value + x) more
past_digit text rest more count value x p b = record {
  digits = p.digits ++ b.0 ∷ [];
  split = p.split
      ∙ (ap (λ t. p.digits ++ t) b.1 ∙ sym (append_assoc p.digits (b.0 ∷ []) more));
  each = every_push is_digit p.digits b.0 p.each b.2;
  counted = let k = p.counted in omega (arith, k, length-append p.digits (b.0 ∷ []));
  valued = let k = p.valued in let i : x ≡ b.0 - digit_zero = b.3 in
      omega (arith, k, i, value_push 0 p.digits b.0);
  small = next_small count value x p.small (begins_small rest more x b);
}

-- the digit at a place begins what is left there
pub begins_at : (text : List ℕ) (n x : ℕ) → n < length text → is_digit (get_or text n 0) ≡ true
    → x ≡ get_or text n 0 - digit_zero → BeginsDigit (drop n text) x (drop (n + 1) text)
begins_at text n x h d v =
    let next : suc n ≡ n + 1 = omega arith in
    (get_or text n 0, drop-cons text n 0 h ∙ ap (λ k. get_or text n 0 ∷ drop k text) next, d, v)

-- a language of 1 to `high` digits
pub record DigitTexts {V : Type 0} (high : ℕ) (L : List ℕ → V → Type 0) : Type 0 where
  pub up : (t : List ℕ) → AreDigits 1 high 0 t → (v : V) × L t v
  pub down : (t : List ℕ) (v : V) → L t v → AreDigits 1 high 0 t

pub digits_continue : {V : Type 0} (high : ℕ) (L : List ℕ → V → Type 0) → DigitTexts high L
    → (w : List ℕ) → Every is_digit w → 1 ≤ length w → length w ≤ high → Continues L w
digits_continue high L d w h l m =
    let v = d.up w (are_digits 1 high w h l m) in
    ([], v.0, subst (λ t. L t v.0) (sym (append-nil w)) v.1)

digits_viable : {V : Type 0} (high : ℕ) (L : List ℕ → V → Type 0) → DigitTexts high L
    → (w : List ℕ) → Every is_digit w → 1 ≤ high → length w ≤ high → Continues L w
digits_viable high L d [] h i l =
    let v = d.up (digit_zero ∷ []) (are_digits 1 high (digit_zero ∷ []) (refl, tt) (omega arith) (omega arith)) in
    (digit_zero ∷ [], v.0, v.1)
digits_viable high L d (c ∷ w) h i l = digits_continue high L d (c ∷ w) h (omega arith) l

test_more : (n high b : ℕ) → (nat_lt n high && is_digit b) ≡ true → (n < high) × (is_digit b ≡ true)
test_more n high b h = grind arith

more_test : (n high b : ℕ) → n < high → is_digit b ≡ true → (nat_lt n high && is_digit b) ≡ true
more_test n high b h k = grind arith

-- at a digit within digits, there is room for it
pub inner_digit : (low high : ℕ) (w u : List ℕ) (b : ℕ) → AreDigits low high 0 ((w ++ b ∷ []) ++ u)
    → (length w < high) × (is_digit b ≡ true)
inner_digit low high w u b d = (
  let k = d.fits in
      omega (arith, k, length-append (w ++ b ∷ []) u, length-append w (b ∷ [])),
  every_at is_digit w b u d.each,
)

pub digits_followed : {V : Type 0} (high : ℕ) (L : List ℕ → V → Type 0) → DigitTexts high L
    → (w : List ℕ) (n : ℕ) → n ≡ length w → Every is_digit w → 1 ≤ high → n ≤ high
    → IsFollowed L (λ b. nat_lt n high && is_digit b) w
digits_followed high L d w n e h i l = record {
  viable = digits_viable high L d w h i (omega arith);
  may = λ b k. let m = test_more n high b k in
      let m0 = m.0 in
      digits_continue high L d (w ++ b ∷ []) (every_push is_digit w b h m.1)
      (omega (arith, length-append w (b ∷ []))) (omega (arith, length-append w (b ∷ [])));
  only = λ b c. let k = inner_digit 1 high w c.0 b (d.down _ c.1 c.2) in
      let k0 = k.0 in more_test n high b (omega arith) k.1;
}

-- after the longest run of them no further digit may come
pub digits_blocked : (n high : ℕ) (t : List ℕ) → (n < high → Lacks is_digit t)
    → Lacks (λ b. nat_lt n high && is_digit b) t
digits_blocked n high [] h = tt
digits_blocked n high (b ∷ t) h = blocked n high b h
  where
    blocked : (n high b : ℕ) → (n < high → is_digit b ≡ false)
        → (nat_lt n high && is_digit b) ≡ false
    blocked n high b h = grind arith

-- the stop after digits
abbrev pub stop_at : Digits → NumberPlace → Stop BarePlace
stop_at run p = record { left = run.left; place = place.Number p }

pub some_count : (n : ℕ) → n ≢ 0 → nat_le 1 n ≡ true
some_count n h = grind arith

pub no_count : (n : ℕ) → n ≡ 0 → nat_le 1 n ≡ false
no_count n h = rw h refl

pub no_digit_left : (w : List ℕ) (n : ℕ) → n ≡ length w → n ≡ 0 → w ≡ []
no_digit_left [] n e h = refl
no_digit_left (c ∷ w) n e h = absurd (omega arith)

-- what is read in such a language
pub digits_read : (d : Dialect) (high : ℕ) (L : List ℕ → Bare → Type 0) → DigitTexts high L
    → (p : NumberPlace) (text : List ℕ) (run : Digits) (l : Leaf) → 1 ≤ high
    → in_number p ≡ (λ b. nat_lt run.count high && is_digit b)
    → ends_number p ≡ nat_le 1 run.count → TakesDigits high text run → run.count ≢ 0
    → ((w : List ℕ) → AreDigits 1 high 0 w → run.count ≡ length w → run.value ≡ value_from 0 w
    → L w (leaf_bare l))
    → ReadsLeaf d L text l (stop_at run p)
digits_read d high L texts p text run l i e f t n spelled =
    let q = t.past in
    let c = q.counted in
    let k = t.within in
    reads_leaf d L text q.digits l (stop_at run p) q.split
    (rw e (digits_followed high L texts q.digits run.count c q.each i k))
    (rw e (digits_blocked run.count high run.left.now t.longest))
    (spelled q.digits (are_digits 1 high q.digits q.each (omega arith) (omega arith)) c q.valued)
    (f ∙ some_count run.count n)

pub digits_refused : (d : Dialect) (high : ℕ) (L : List ℕ → Bare → Type 0) → DigitTexts high L
    → (p : NumberPlace) (text : List ℕ) (run : Digits) → 1 ≤ high
    → in_number p ≡ (λ b. nat_lt run.count high && is_digit b)
    → ends_number p ≡ nat_le 1 run.count → TakesDigits high text run → run.count ≡ 0
    → RefusesLeaf d L text (stop_at run p)
digits_refused d high L texts p text run i e f t n =
    let q = t.past in
    refuses_leaf d L text q.digits (stop_at run p) q.split
    (rw e (digits_followed high L texts q.digits run.count q.counted q.each i t.within))
    (rw e (digits_blocked run.count high run.left.now t.longest))
    (λ x h. no_digits high (subst (AreDigits 1 high 0)
    (no_digit_left q.digits run.count q.counted n) (texts.down q.digits x h)))
    (f ∙ no_count run.count n)

-- a Decimal with at most 12 digits before its point has at most 15 in thousandths
scaled : (count value : ℕ) → value < 10 ^ count → count ≤ 3 → value * 10 ^ (3 - count) < 1000
scaled zero value h k = omega arith
scaled (suc zero) value h k = omega arith
scaled (suc (suc zero)) value h k = omega arith
scaled (suc (suc (suc zero))) value h k = omega arith
scaled (suc (suc (suc (suc n)))) value h k = absurd (omega arith)

pub fits_thousandths : (whole count value scale : ℕ) → whole < 10 ^ 12 → value < 10 ^ count
    → count ≤ 3 → scale ≡ 10 ^ (3 - count) → whole * 1000 + value * scale < 10 ^ 15
fits_thousandths whole count value scale h k l e =
    let s = scaled count value k l in
    subst (λ x. whole * 1000 + value * x < 10 ^ 15) (sym e) (omega arith)
