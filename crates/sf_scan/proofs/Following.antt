-- No byte that may follow a bare item comes next in it.
use Rattle.std.proofs.Common.{◌≡◌, ℕ, ℤ, Bool, true, false, List, [], ◌∷◌, ◌++◌, refl, sym, ◌∙◌}
use Rattle.std.proofs.Common.{◌||◌, ◌==◌, subst, eqb-true}
use Rattle.sf_value.specs.Ascii.{quote, question_mark, colon, percent, minus, point, at_sign}
use Rattle.sf_value.specs.declared.dialect.Dialect.{Dialect}
use Rattle.sf_value.specs.declared.value.Bare.{Bare}
use Rattle.sf_value.specs.declared.value.Bare.TheVariants as bare
use Rattle.sf_value.specs.Grammar.Words.{Every, IsWord}
use Rattle.sf_value.specs.Grammar.Classes.{is_digit, is_token_start, is_in_token}
use Rattle.sf_value.specs.Grammar.Dialects.{is_rfc9651}
use Rattle.sf_value.specs.Grammar.Lines.{Continues}
use Rattle.sf_value.specs.Grammar.Numbers.{sign, SpellsInteger, SpellsDecimal}
use Rattle.sf_value.specs.Grammar.ByteSequences.{SpellsByteSequence}
use Rattle.sf_value.specs.Grammar.DisplayStrings.{SpellsDisplayString}
use Rattle.sf_value.proofs.Runs.{every_append}
use Rattle.sf_value.proofs.Words.{every_map}
use Rattle.sf_value.specs.Grammar.BareItems.{SpellsBare}
use Rattle.sf_scan.specs.NumberPlaces.{is_signed_start}
use Rattle.sf_scan.specs.NumberTexts.{NumberAfterSign, DateAfterAt}
use Rattle.sf_scan.specs.Places.{is_follow}
use Rattle.sf_scan.specs.Stops.{IsFollowed}
use Rattle.sf_scan.proofs.Automata.{accepts_once}
use Rattle.sf_scan.proofs.Bares.{boolean_texts, blob_texts, shown_texts, token_texts}
use Rattle.sf_scan.proofs.Bares.{token_followed, value_followed, string_followed}
use Rattle.sf_scan.proofs.Blobs as blobs
use Rattle.sf_scan.proofs.BlobStops.{blob_recognized}
use Rattle.sf_scan.proofs.Dates.{at_texts}
use Rattle.sf_scan.proofs.DisplayStrings as shows
use Rattle.sf_scan.proofs.Escapes.{closed_followed}
use Rattle.sf_scan.specs.Languages.{Apart}
use Rattle.sf_scan.proofs.Languages.{same_followed, past_followed}
use Rattle.sf_scan.proofs.Lists.{every_at, no_follow}
use Rattle.sf_scan.proofs.Numbers.{minus_texts, digit_texts}
use Rattle.sf_scan.proofs.NumberStarts.{integer_first, decimal_first, integer_some, decimal_some}
use Rattle.sf_scan.proofs.ShownStops.{shown_recognized}

-- the bytes that come next, of which none may follow
record Next (d : Dialect) (a : List ℕ) : Type 0 where
  next : ℕ → Bool
  only : (b : ℕ) → Continues (SpellsBare d) (a ++ b ∷ []) → next b ≡ true
  not_follow : (b : ℕ) → is_follow b ≡ true → next b ≡ false

-- none
next_none : (d : Dialect) (a : List ℕ) → ((b : ℕ) → Continues (SpellsBare d) (a ++ b ∷ []) → ⊥)
    → Next d a
next_none d a h = record {
  next = λ b. false;
  only = λ b c. absurd (h b c);
  not_follow = λ b f. refl;
}

followed_none : (d : Dialect) (a : List ℕ) → IsFollowed (SpellsBare d) (λ b. false) a → Next d a
followed_none d a f =
    next_none d a (λ b c. let z : false ≡ true = f.only b c in cc)

-- the bytes of numbers
abbrev is_numeric : ℕ → Bool
is_numeric b = is_digit b || (b == minus || b == point)

numeric_digit : (b : ℕ) → is_digit b ≡ true → is_numeric b ≡ true
numeric_digit b h = rw h refl

numeric_digits : (w : List ℕ) → Every is_digit w → Every is_numeric w
numeric_digits = every_map is_digit is_numeric numeric_digit

after_sign : (neg : Bool) (t : List ℕ) (x : Bare) → NumberAfterSign neg t x → Every is_numeric t
after_sign neg t (bare.Integer n) h = numeric_digits t h.0.each
after_sign neg t (bare.Decimal m) h =
    subst (Every is_numeric) (sym h.2)
    (every_append is_numeric h.0 (point ∷ h.1) (numeric_digits h.0 h.3.each)
    (refl, numeric_digits h.1 h.4.0.each))
after_sign neg t x h = absurd h

integer_numeric : (t : List ℕ) (n : ℤ) → SpellsInteger t n → Every is_numeric t
integer_numeric t n (neg, w, e, d, v) =
    subst (Every is_numeric) (sym e) (by neg)
  where
    by : (neg : Bool) → Every is_numeric (sign neg ++ w)
    by true = (refl, numeric_digits w d.each)
    by false = numeric_digits w d.each

after_at : (t : List ℕ) (x : Bare) → DateAfterAt t x → Every is_numeric t
after_at t (bare.Date n) h = integer_numeric t n h
after_at t x h = absurd h

not_numeric : (b : ℕ) → is_follow b ≡ true → is_numeric b ≡ false
not_numeric = no_follow is_numeric (refl, (refl, (refl, (refl, (refl, tt)))))

-- after a digit or a minus sign come only they
signed_only : (d : Dialect) (b : ℕ) (t : List ℕ) (c : ℕ) (u : List ℕ) (x : Bare)
    → is_signed_start b ≡ true → SpellsBare d (((b ∷ t) ++ c ∷ []) ++ u) x → is_numeric c ≡ true
signed_only d b t c u x i h = by (is_digit b) refl
  where
    by : (z : Bool) → is_digit b ≡ z → is_numeric c ≡ true
    by true e =
        let k = (digit_texts d b e).down ((t ++ c ∷ []) ++ u) x h in
        every_at is_numeric (b ∷ t) c u (after_sign false _ k.0 k.1)
    by false e =
        let m : (b == minus) ≡ true = rw e at i in
        let k = (minus_texts d).down ((t ++ c ∷ []) ++ u) x
        (subst (λ y. SpellsBare d (y ∷ ((t ++ c ∷ []) ++ u)) x) (eqb-true b minus m) h) in
        every_at is_numeric t c u (after_sign true _ k.0 k.1)

next_signed : (d : Dialect) (b : ℕ) (t : List ℕ) → is_signed_start b ≡ true → Next d (b ∷ t)
next_signed d b t i = record {
  next = is_numeric;
  only = λ c k. signed_only d b t c k.0 k.1 i k.2;
  not_follow = not_numeric;
}

next_integer : (d : Dialect) (a : List ℕ) (n : ℤ) → SpellsInteger a n → Next d a
next_integer d [] n h = absurd (integer_some n h)
next_integer d (b ∷ t) n h = next_signed d b t (integer_first b t n h)

next_decimal : (d : Dialect) (a : List ℕ) (m : ℤ) → SpellsDecimal a m → Next d a
next_decimal d [] m h = absurd (decimal_some m h)
next_decimal d (b ∷ t) m h = next_signed d b t (decimal_first b t m h)

-- and after an @
next_date : (d : Dialect) (s : List ℕ) → is_rfc9651 d ≡ true → Next d (at_sign ∷ s)
next_date d s e = record {
  next = is_numeric;
  only = λ c k.
      let h = (at_texts d e).down ((s ++ c ∷ []) ++ k.0) k.1 k.2 in
      every_at is_numeric s c k.0 (after_at _ h.0 h.1);
  not_follow = not_numeric;
}

-- after a Token come only its bytes
not_in_token : (b : ℕ) → is_follow b ≡ true → is_in_token b ≡ false
not_in_token = no_follow is_in_token (refl, (refl, (refl, (refl, (refl, tt)))))

next_token : (d : Dialect) (s : List ℕ) → IsWord is_token_start is_in_token s → Next d s
next_token d [] w = absurd w
next_token d (b ∷ s) w = record {
  next = is_in_token;
  only = (past_followed (SpellsBare d) is_in_token (b ∷ []) s
      (same_followed _ _ _ (token_texts d b w.0) _ _ (token_followed b s w.0 w.1))).only;
  not_follow = not_in_token;
}

-- after a closed Byte Sequence or Display String comes nothing
blob_final : (s : blobs.State) (b : ℕ) → blobs.final s ≡ true → blobs.next s b ≡ false
blob_final blobs.Closed b h = refl
blob_final (blobs.At p) b h = absurd cc

shown_final : (s : shows.State) (b : ℕ) → shows.final s ≡ true → shows.next s b ≡ false
shown_final shows.Closed b h = refl
shown_final s b h = absurd cc

next_blob : (d : Dialect) (t s : List ℕ) → SpellsByteSequence (colon ∷ t) s → Next d (colon ∷ t)
next_blob d t s h = next_none d (colon ∷ t) (λ b c.
    let k = (blob_texts d).down ((t ++ b ∷ []) ++ c.0) c.1 c.2 in
    accepts_once blobs.next blobs.after blobs.final blob_final _ t c.0 b
    (blob_recognized.spells t s h)
    (blob_recognized.spells ((t ++ b ∷ []) ++ c.0) k.0 k.1))

next_shown : (d : Dialect) (t s : List ℕ) → is_rfc9651 d ≡ true
    → SpellsDisplayString (percent ∷ t) s → Next d (percent ∷ t)
next_shown d t s e h = next_none d (percent ∷ t) (λ b c.
    let k = (shown_texts d e).down ((t ++ b ∷ []) ++ c.0) c.1 c.2 in
    accepts_once shows.next shows.after shows.final shown_final _ t c.0 b
    (shown_recognized.spells t s h)
    (shown_recognized.spells ((t ++ b ∷ []) ++ c.0) k.0 k.1))

next_of : (d : Dialect) (a : List ℕ) (x : Bare) → SpellsBare d a x → Next d a
next_of d a (bare.Integer n) h = next_integer d a n h
next_of d a (bare.Decimal m) h = next_decimal d a m h
next_of d a (bare.Date n) h = subst (Next d) (sym h.1.1) (next_date d h.1.0 h.0)
next_of d a (bare.Text s) h = followed_none d a
    (subst (IsFollowed (SpellsBare d) (λ b. false)) (sym h.0)
    (past_followed (SpellsBare d) _ (quote ∷ []) _
    (string_followed d s (quote ∷ []) _ h.1 closed_followed)))
next_of d a (bare.Token s) h = subst (Next d) (sym h.0) (next_token d s h.1)
next_of d a (bare.Boolean c) h = followed_none d a
    (subst (IsFollowed (SpellsBare d) (λ b. false)) (sym h)
    (past_followed (SpellsBare d) _ (question_mark ∷ []) _
    (same_followed _ _ _ (boolean_texts d) _ _ (value_followed c _ refl))))
next_of d a (bare.Blob s) h =
    subst (Next d) (sym h.1) (next_blob d h.0 s (subst (λ t. SpellsByteSequence t s) h.1 h))
next_of d a (bare.Shown s) (r, h) =
    subst (Next d) (sym h.1)
    (next_shown d (quote ∷ h.0) s r (subst (λ t. SpellsDisplayString t s) h.1 h))

pub bare_apart : (d : Dialect) → Apart (SpellsBare d) is_follow
bare_apart d a x b h f c =
    let n = next_of d a x h in
    let z : true ≡ false = sym (n.only b c) ∙ n.not_follow b f in cc
