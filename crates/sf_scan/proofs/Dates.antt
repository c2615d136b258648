-- Dates, with the places in them.
use Rattle.std.proofs.Common.{◌≡◌, ◌≢◌, ℕ, Bool, true, false, List, [], ◌∷◌}
use Rattle.std.proofs.Common.{refl, sym, ap, ◌∙◌, subst, ◌==◌, ◌&&◌}
use Rattle.std.proofs.Common.{Result, arith, eqb-true}
use Rattle.std.proofs.lemmas.Bool.{and_parts}
use Rattle.sf_value.specs.Ascii.{minus, digit_zero, at_sign}
use Rattle.sf_value.specs.declared.dialect.Dialect.{Dialect}
use Rattle.sf_value.specs.declared.value.Bare.{Bare}
use Rattle.sf_value.specs.declared.value.Bare.TheVariants as bare
use Rattle.sf_value.specs.Grammar.Classes.{is_digit}
use Rattle.sf_value.specs.Grammar.Dialects.{is_rfc9651}
use Rattle.sf_value.specs.Grammar.Lines.{Continues}
use Rattle.sf_value.specs.Grammar.Numbers.{signed, value_from, AreDigits}
use Rattle.sf_value.specs.Grammar.Numbers.{SpellsInteger}
use Rattle.sf_value.specs.Grammar.BareItems.{SpellsBare}
use Rattle.sf_scan.specs.Leaves.{leaf_bare}
use Rattle.sf_scan.specs.NumberPlaces.{is_signed_start}
use Rattle.sf_scan.specs.NumberTexts.{DateAfterAt, DateAfterSign, TakesDigits}
use Rattle.sf_scan.specs.NumberTexts.{BeginsDigit}
use Rattle.sf_scan.specs.Scans.{ReadsLeaf, RefusesLeaf, ScansLeaf}
use Rattle.sf_scan.specs.Stops.{Past, IsFollowed}
use Rattle.sf_value.specs.Runs.{Lacks, FirstIs}
use Rattle.sf_scan.specs.declared.leaf.Leaf.{Leaf}
use Rattle.sf_scan.specs.declared.number.Digits.{Digits}
use Rattle.sf_scan.specs.declared.number_place.NumberPlace.TheVariants as number
use Rattle.sf_scan.specs.declared.place.BarePlace.TheVariants as place
use Rattle.sf_scan.specs.declared.place.Stop.{Stop}
use Rattle.sf_scan.specs.declared.place.BarePlace.{BarePlace}
use Rattle.sf_scan.proofs.Bares.{refuses_leaf, past_scans, first_byte, begins}
use Rattle.sf_scan.proofs.Beginnings.{begun_scans, same_scans}
use Rattle.sf_scan.proofs.Digits.{DigitTexts, digits_read, digits_refused, digits_continue, stop_at}
use Rattle.sf_scan.proofs.Languages.{SameTexts}
use Rattle.sf_scan.proofs.Lists.{tails}
use Rattle.sf_scan.proofs.Numbers.{integer_after_minus, integer_at_digit}
use Rattle.sf_scan.proofs.NumberStarts.{signed_continues, integer_first, integer_some}

-- after the sign
date_texts : (neg : Bool) → DigitTexts 15 (DateAfterSign neg)
date_texts neg = record {
  up = λ t d. (bare.Date (signed neg (value_from 0 t)), (d, refl));
  down = down;
}
  where
    down : (t : List ℕ) (x : Bare) → DateAfterSign neg t x → AreDigits 1 15 0 t
    down t (bare.Date n) h = h.0
    down t x h = absurd h

pub date_read : (d : Dialect) (neg : Bool) (text : List ℕ) (run : Digits) (l : Leaf)
    → TakesDigits 15 text run → run.count ≢ 0 → leaf_bare l ≡ bare.Date (signed neg run.value)
    → ReadsLeaf d (DateAfterSign neg) text l (stop_at run (number.DateDigits run.count))
date_read d neg text run l t n v =
    digits_read d 15 (DateAfterSign neg) (date_texts neg) (number.DateDigits run.count) text run l
    (omega arith) refl refl t n (λ w k e a. subst (DateAfterSign neg w) (sym v) (k, cc))

pub date_refused : (d : Dialect) (neg : Bool) (text : List ℕ) (run : Digits)
    → TakesDigits 15 text run → run.count ≡ 0
    → RefusesLeaf d (DateAfterSign neg) text (stop_at run (number.DateDigits run.count))
date_refused d neg text run t n =
    digits_refused d 15 (DateAfterSign neg) (date_texts neg) (number.DateDigits run.count) text run
    (omega arith) refl refl t n

-- after the @
at_followed : IsFollowed DateAfterAt is_signed_start []
at_followed = record {
  viable = let c = started digit_zero refl in (digit_zero ∷ c.0, c.1, c.2);
  may = started;
  only = λ b c. by b c.0 c.1 c.2;
}
  where
    started : (b : ℕ) → is_signed_start b ≡ true → Continues DateAfterAt (b ∷ [])
    started b h = let c = signed_continues b h in (c.0, bare.Date c.1, c.2)

    by : (b : ℕ) (u : List ℕ) (x : Bare) → DateAfterAt (b ∷ u) x → is_signed_start b ≡ true
    by b u (bare.Date n) h = integer_first b u n h
    by b u x h = absurd h

no_signed : (t : List ℕ) → FirstIs (λ b. b ≢ minus) t → Lacks is_digit t → Lacks is_signed_start t
no_signed [] h k = tt
no_signed (b ∷ t) h k = neither b h k
  where
    neither : (b : ℕ) → b ≢ minus → is_digit b ≡ false → is_signed_start b ≡ false
    neither b h k = grind arith

pub date_start_refused : (d : Dialect) (stop : Stop BarePlace) → FirstIs (λ b. b ≢ minus) stop.left.now
    → Lacks is_digit stop.left.now → stop.place ≡ place.Number number.At
    → RefusesLeaf d DateAfterAt stop.left.now stop
date_start_refused d stop h k p =
    refuses_leaf d DateAfterAt stop.left.now [] stop refl (rw p at_followed)
    (rw p (no_signed stop.left.now h k)) none (rw p refl)
  where
    none : (x : Bare) → DateAfterAt [] x → ⊥
    none (bare.Date n) h = integer_some n h
    none x h = h

date_minus_texts : SameTexts (DateAfterSign true) (Past (minus ∷ []) DateAfterAt) (λ x. x)
date_minus_texts = record { up = up; down = down }
  where
    up : (t : List ℕ) (x : Bare) → DateAfterSign true t x → DateAfterAt (minus ∷ t) x
    up t (bare.Date n) h = (true, t, refl, h.0, h.1)
    up t x h = absurd h

    down : (t : List ℕ) (x : Bare) → DateAfterAt (minus ∷ t) x → (y : Bare) × DateAfterSign true t y
    down t (bare.Date n) h = (bare.Date n, integer_after_minus t n h)
    down t x h = absurd h

date_digit_texts : (b : ℕ) → is_digit b ≡ true
    → SameTexts (Past (b ∷ []) (DateAfterSign false)) (Past (b ∷ []) DateAfterAt) (λ x. x)
date_digit_texts b i = record { up = up; down = down }
  where
    up : (t : List ℕ) (x : Bare) → DateAfterSign false (b ∷ t) x → DateAfterAt (b ∷ t) x
    up t (bare.Date n) h = (false, b ∷ t, refl, h.0, h.1)
    up t x h = absurd h

    down : (t : List ℕ) (x : Bare) → DateAfterAt (b ∷ t) x
        → (y : Bare) × DateAfterSign false (b ∷ t) y
    down t (bare.Date n) h = (bare.Date n, integer_at_digit b t n i h)
    down t x h = absurd h

date_of : (d : Dialect) (t : List ℕ) (x : Bare) → SpellsBare d (at_sign ∷ t) x
    → begins d x at_sign ≡ true → DateAfterAt t x
date_of d t (bare.Date n) h k =
    subst (λ s. SpellsInteger s n) (sym (tails at_sign at_sign t h.1.0 h.1.1)) h.1.2
date_of d t x h k = absurd (cc k)

pub at_texts : (d : Dialect) → is_rfc9651 d ≡ true
    → SameTexts DateAfterAt (Past (at_sign ∷ []) (SpellsBare d)) (λ x. x)
at_texts d e = record {
  up = up;
  down = λ t x h. (x, date_of d t x h (first_byte d at_sign t x h));
}
  where
    up : (t : List ℕ) (x : Bare) → DateAfterAt t x → SpellsBare d (at_sign ∷ t) x
    up t (bare.Date n) h = (e, (t, refl, h))
    up t x h = absurd h

pub date_minus_scans : (d : Dialect) (text more : List ℕ) (r : Result (Stop BarePlace × Leaf) (Stop BarePlace))
    → text ≡ minus ∷ more → ScansLeaf d (DateAfterSign true) more r → ScansLeaf d DateAfterAt text r
date_minus_scans d text more r e h =
    past_scans d DateAfterAt (minus ∷ []) more text r e
    (same_scans d (DateAfterSign true) _ more r date_minus_texts h)

pub date_digit_scans : (d : Dialect) (text more : List ℕ) (value : ℕ)
    (r : Result (Stop BarePlace × Leaf) (Stop BarePlace)) → BeginsDigit text value more
    → ScansLeaf d (DateAfterSign false) text r → ScansLeaf d DateAfterAt text r
date_digit_scans d text more value r g h =
    begun_scans d (DateAfterSign false) DateAfterAt g.0 more text r g.1
    (digits_continue 15 (DateAfterSign false) (date_texts false) (g.0 ∷ []) (g.2, tt)
    (omega arith) (omega arith))
    (date_digit_texts g.0 g.2) h

pub date_scans : (d : Dialect) (text more : List ℕ) (b : ℕ) (r : Result (Stop BarePlace × Leaf) (Stop BarePlace))
    → text ≡ b ∷ more → (b == at_sign && is_rfc9651 d) ≡ true → ScansLeaf d DateAfterAt more r
    → ScansLeaf d (SpellsBare d) text r
date_scans d text more b r e k h =
    let j = and_parts (b == at_sign) (is_rfc9651 d) k in
    past_scans d (SpellsBare d) (at_sign ∷ []) more text r
    (e ∙ ap (λ x. x ∷ more) (eqb-true b at_sign j.0))
    (same_scans d DateAfterAt _ more r (at_texts d j.1) h)
