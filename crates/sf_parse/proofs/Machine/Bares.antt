-- Bare items are read by their machine.
use Rattle.std.specs.Option.{option_map, option_or}
use Rattle.std.proofs.Common.{◌≡◌, ℕ, ◌≤◌, Bool, true, ◌==◌, List, [], ◌∷◌, ◌++◌, Some, None}
use Rattle.std.proofs.Common.{⊎_elim, refl, sym, ap, ◌∙◌, subst, ◌↔◌, inl, inr, arith, append-nil}
use Rattle.std.proofs.Common.{if◌then◌else◌}
use Rattle.sf_value.specs.Grammar.Words.{Every, allow}
use Rattle.sf_value.specs.Grammar.Classes.{is_token_start, is_in_token, is_visible}
use Rattle.sf_value.specs.Grammar.Dialects.{is_rfc9651}
use Rattle.sf_value.specs.Grammar.Numbers.{SpellsDate}
use Rattle.sf_value.specs.Grammar.Strings.{escaped, SpellsString}
use Rattle.sf_value.specs.Grammar.Tokens.{SpellsWord}
use Rattle.sf_value.specs.Grammar.ByteSequences.{Sextets, SpellsByteSequence}
use Rattle.sf_value.specs.Grammar.Booleans.{SpellsBoolean}
use Rattle.sf_value.specs.Grammar.DisplayStrings.{SpellsDisplayString}
use Rattle.sf_value.specs.Grammar.BareItems.{SpellsBare}
use Rattle.sf_value.specs.declared.dialect.Dialect.{Dialect}
use Rattle.sf_value.specs.declared.value.Bare.{Bare}
use Rattle.sf_value.specs.declared.value.Bare.TheVariants.{Integer, Decimal, Text, Token, Blob}
use Rattle.sf_value.specs.declared.value.Bare.TheVariants.{Boolean, Date, Shown}
use Rattle.sf_parse.specs.Machine.Language.{MapValues, Either, After, Where, only, Reads, Live}
use Rattle.sf_parse.specs.Machine.Language.{is_follow}
use Rattle.sf_parse.specs.Machine.Numbers.{NumberState, Whole, Fraction, Digits, digits_step}
use Rattle.sf_parse.specs.Machine.Numbers.{SpellsNumber, number_start, number_step, Sign}
use Rattle.sf_parse.specs.Machine.Texts.{Inside, Escaped, Closed, ResidualText, word_start}
use Rattle.sf_parse.specs.Machine.Texts.{word_step}
use Rattle.sf_parse.specs.Machine.Texts.{ResidualBoolean}
use Rattle.sf_parse.specs.declared.boolean.BooleanState.TheVariants.{WithValue, QuestionMark}
use Rattle.sf_parse.specs.Machine.Blobs.{Group, Padded, Ended, H0, ResidualBlob}
use Rattle.sf_parse.specs.Machine.Showns.{Quote, Unencoded, Percent, Hex, Done, ResidualShown}
use Rattle.sf_parse.specs.Machine.Bares.{BareState}
use Rattle.sf_parse.specs.Machine.Bares.{InNumber, InText, InToken, InBoolean}
use Rattle.sf_parse.specs.Machine.Bares.{InDate, InBlob, InShown}
use Rattle.sf_parse.specs.Machine.Bares.{ResidualBare, GoodBare, bare_start, bare_step, bare_finish}
use Rattle.sf_parse.proofs.Machine.Blobs.{blob_reads, blob_lives}
use Rattle.sf_parse.proofs.Machine.Showns.{shown_reads, shown_lives}
use Rattle.sf_parse.proofs.Machine.Language.{reads_iff, reads_mapped, reads_into, reads_either}
use Rattle.sf_parse.proofs.Machine.Language.{reads_after}
use Rattle.sf_parse.proofs.Machine.Language.{reads_where, map_cases}
use Rattle.sf_value.proofs.Words.{allow_cases}
use Rattle.sf_parse.proofs.Classes.{not_follow}
use Rattle.sf_parse.proofs.Machine.Numbers.{number_reads, number_starts, number_lives, date_reads}
use Rattle.sf_parse.proofs.Machine.Numbers.{date_lives}
use Rattle.sf_parse.proofs.Machine.Texts.{AnyState, word_reads, word_starts, text_reads, text_lives}
use Rattle.sf_parse.proofs.Machine.Texts.{boolean_reads, boolean_lives}

pub same : {A : Type 0} → A ↔ A
same = (λ h. h, λ h. h)

pub bare_reads : (s : BareState) → GoodBare s
    → Reads BareState Bare GoodBare ResidualBare (ResidualBare s) (bare_step s) (bare_finish s)
bare_reads (InNumber s) g = reads_into InNumber (λ s g. g) (λ s t v. same) (number_reads s g)
bare_reads (InText s) g = reads_mapped InText Text (λ s g. tt) (λ s t v. same) (text_reads s tt)
bare_reads (InToken bytes) g = reads_mapped InToken Token (λ s g. tt) (λ s t v. same)
    (word_reads is_in_token bytes)
bare_reads (InBoolean s) g = reads_mapped InBoolean Boolean (λ s g. tt) (λ s t v. same)
    (boolean_reads s tt)
bare_reads (InDate s) g = reads_mapped InDate Date (λ s g. g) (λ s t v. same) (date_reads s g)
bare_reads (InBlob s) g = reads_mapped InBlob Blob (λ s g. g) (λ s t v. same) (blob_reads s g)
bare_reads (InShown s) g = reads_mapped InShown Shown (λ s g. g) (λ s t v. same) (shown_reads s g)

pub bare_lives : (s : BareState) → GoodBare s → Live Bare (ResidualBare s)
bare_lives (InNumber s) g = number_lives s g
bare_lives (InText s) g = let l = text_lives s in
    record { text = l.text; value = Text l.value; whole = (l.value, l.whole, refl) }
bare_lives (InToken bytes) g = record {
  text = [];
  value = Token bytes;
  whole = (
    bytes,
    (tt, sym (append-nil bytes)),
    refl,
  );
}
bare_lives (InBoolean s) g = let l = boolean_lives s in
    record { text = l.text; value = Boolean l.value; whole = (l.value, l.whole, refl) }
bare_lives (InBlob s) g = let l = blob_lives s g in
    record { text = l.text; value = Blob l.value; whole = (l.value, l.whole, refl) }
bare_lives (InShown s) g = let l = shown_lives s g in
    record { text = l.text; value = Shown l.value; whole = (l.value, l.whole, refl) }
bare_lives (InDate s) g = let l = date_lives s g in
    record { text = l.text; value = Date l.value; whole = (l.value, l.whole, refl) }

-- A bare item that may end doesn't go on with what may be after it.
pub bare_apart : (s : BareState) (x : Bare) (b : ℕ) (t : BareState) → bare_finish s ≡ Some x
    → bare_step s b ≡ Some t → is_follow b ≡ true → ⊥
bare_apart (InNumber (Whole neg count a)) x b t e n f = whole_apart neg count a b t n f
  where
    whole_apart : (neg : Bool) (count a b : ℕ) (t : BareState)
        → option_map InNumber (number_step (Whole neg count a) b) ≡ Some t → is_follow b ≡ true → ⊥
    whole_apart neg count a b t n f = grind arith
bare_apart (InNumber (Fraction neg whole count a)) x b t e n f =
    fraction_apart neg whole count a b t n f
  where
    fraction_apart : (neg : Bool) (whole count a b : ℕ) (t : BareState)
        → option_map InNumber (number_step (Fraction neg whole count a) b) ≡ Some t
        → is_follow b ≡ true → ⊥
    fraction_apart neg whole count a b t n f = grind arith
bare_apart (InToken bytes) x b t e n f =
    let c = map_cases InToken (word_step is_in_token bytes b) t n in
    not_follow is_in_token (refl, (refl, (refl, (refl, (refl, tt))))) b
    (allow_cases (is_in_token b) (bytes ++ b ∷ []) c.0 c.1).0 f
bare_apart (InDate (Digits neg count a)) x b t e n f = digits_apart neg count a b t n f
  where
    digits_apart : (neg : Bool) (count a b : ℕ) (t : BareState)
        → option_map InDate (digits_step neg count a b) ≡ Some t → is_follow b ≡ true → ⊥
    digits_apart neg count a b t n f = grind arith
bare_apart (InText (Inside bytes)) x b t e n f = cc
bare_apart (InText (Escaped bytes)) x b t e n f = cc
bare_apart (InText (Closed bytes)) x b t e n f = cc
bare_apart (InBoolean QuestionMark) x b t e n f = cc
bare_apart (InBoolean (WithValue c)) x b t e n f = cc
bare_apart (InDate Sign) x b t e n f = cc
bare_apart (InBlob (Group bytes h)) x b t e n f = cc
bare_apart (InBlob (Padded bytes m)) x b t e n f = cc
bare_apart (InBlob (Ended bytes)) x b t e n f = cc
bare_apart (InShown Quote) x b t e n f = cc
bare_apart (InShown (Unencoded bytes c)) x b t e n f = cc
bare_apart (InShown (Percent bytes c)) x b t e n f = cc
bare_apart (InShown (Hex bytes c h)) x b t e n f = cc
bare_apart (InShown (Done bytes)) x b t e n f = cc

text_both : (t s : List ℕ) → After 34 (ResidualText (Inside [])) t s ↔ SpellsString t s
text_both t s = (
  λ h. let e : s ≡ h.2.0 = h.2.3 in (
    subst (λ y. t ≡ 34 ∷ (escaped y ++ 34 ∷ [])) (sym e) (h.1
        ∙ ap (λ y. 34 ∷ y) h.2.1),
    subst (Every is_visible) (sym e) h.2.2,
  ),
  λ h. (escaped s ++ 34 ∷ [], h.0, (s, refl, h.1, refl)),
)

boolean_both : (t : List ℕ) (b : Bool) → After 63 (ResidualBoolean QuestionMark) t b
    ↔ SpellsBoolean t b
boolean_both t b = (λ h. h.1 ∙ ap (λ y. 63 ∷ y) h.2, λ h. ((if b then 49 else 48) ∷ [], h, refl))

blob_both : (t s : List ℕ) → After 58 (ResidualBlob (Group [] H0)) t s ↔ SpellsByteSequence t s
blob_both t s = (
  λ (suffix, e, (r, x, i)). (suffix, e, subst (λ y. Sextets suffix y) (sym i) x),
  λ (suffix, e, x). (suffix, e, (s, x, refl)),
)

shown_both : (t s : List ℕ) → After 37 (ResidualShown Quote) t s ↔ SpellsDisplayString t s
shown_both t s = (
  λ (u, e, (suffix, e1, (r, p, w, i))). subst (λ y. SpellsDisplayString t y) (sym i) (
    suffix,
    e
        ∙ ap (λ y. 37 ∷ y) e1,
    p,
    w,
  ),
  λ (suffix, e, p, w). (34 ∷ suffix, e, (suffix, refl, (s, p, w, refl))),
)

number_first : (b : ℕ) (s : NumberState) → number_start b ≡ Some s → (45 ≤ b) × (b ≤ 57)
number_first b s e = grind arith

others : (c : Bool) (b : ℕ) (t : BareState) → (45 ≤ b) × (b ≤ 57)
    → option_or (option_map InText (allow (b == 34) (Inside [])))
    (option_or (option_map InToken (word_start is_token_start b))
    (option_or (option_map InBoolean (allow (b == 63) QuestionMark))
    (option_or (only c (option_map InDate (allow (b == 64) Sign)))
    (option_or (option_map InBlob (allow (b == 58) (Group [] H0)))
    (only c (option_map InShown (allow (b == 37) Quote)))))))
    ≡ Some t
    → ⊥
others c b t r n = grind arith

-- no byte begins bare items of two types
blob_apart : (c : Bool) (b : ℕ) (s t : BareState)
    → option_map InBlob (allow (b == 58) (Group [] H0)) ≡ Some s
    → only c (option_map InShown (allow (b == 37) Quote)) ≡ Some t → ⊥
blob_apart c b s t e n = grind arith

date_apart : (c : Bool) (b : ℕ) (s t : BareState)
    → only c (option_map InDate (allow (b == 64) Sign)) ≡ Some s
    → option_or (option_map InBlob (allow (b == 58) (Group [] H0)))
    (only c (option_map InShown (allow (b == 37) Quote)))
    ≡ Some t
    → ⊥
date_apart c b s t e n = grind arith

boolean_apart : (c : Bool) (b : ℕ) (s t : BareState)
    → option_map InBoolean (allow (b == 63) QuestionMark) ≡ Some s
    → option_or (only c (option_map InDate (allow (b == 64) Sign)))
    (option_or (option_map InBlob (allow (b == 58) (Group [] H0)))
    (only c (option_map InShown (allow (b == 37) Quote))))
    ≡ Some t
    → ⊥
boolean_apart c b s t e n = grind arith

token_apart : (c : Bool) (b : ℕ) (s t : BareState)
    → option_map InToken (word_start is_token_start b) ≡ Some s
    → option_or (option_map InBoolean (allow (b == 63) QuestionMark))
    (option_or (only c (option_map InDate (allow (b == 64) Sign)))
    (option_or (option_map InBlob (allow (b == 58) (Group [] H0)))
    (only c (option_map InShown (allow (b == 37) Quote)))))
    ≡ Some t
    → ⊥
token_apart c b s t e n = grind arith

text_apart : (c : Bool) (b : ℕ) (s t : BareState)
    → option_map InText (allow (b == 34) (Inside [])) ≡ Some s
    → option_or (option_map InToken (word_start is_token_start b))
    (option_or (option_map InBoolean (allow (b == 63) QuestionMark))
    (option_or (only c (option_map InDate (allow (b == 64) Sign)))
    (option_or (option_map InBlob (allow (b == 58) (Group [] H0)))
    (only c (option_map InShown (allow (b == 37) Quote))))))
    ≡ Some t
    → ⊥
text_apart c b s t e n = grind arith

number_apart : (c : Bool) (b : ℕ) (s t : BareState) → option_map InNumber (number_start b) ≡ Some s
    → option_or (option_map InText (allow (b == 34) (Inside [])))
    (option_or (option_map InToken (word_start is_token_start b))
    (option_or (option_map InBoolean (allow (b == 63) QuestionMark))
    (option_or (only c (option_map InDate (allow (b == 64) Sign)))
    (option_or (option_map InBlob (allow (b == 58) (Group [] H0)))
    (only c (option_map InShown (allow (b == 37) Quote)))))))
    ≡ Some t
    → ⊥
number_apart c b s t e n = let k = map_cases InNumber (number_start b) s e in
    others c b t (number_first b k.0 k.1) n

-- the texts of the eight types, as one language
abbrev BareTexts : Bool → List ℕ → Bare → Type 0
BareTexts c =
    Either SpellsNumber
    (Either (MapValues Text SpellsString)
    (Either (MapValues Token (SpellsWord is_token_start is_in_token))
    (Either (MapValues Boolean SpellsBoolean)
    (Either (Where c (MapValues Date SpellsDate))
    (Either (MapValues Blob SpellsByteSequence)
    (Where c (MapValues Shown SpellsDisplayString)))))))

module _ (d : Dialect) where
  texts_both : (t : List ℕ) (v : Bare) → BareTexts (is_rfc9651 d) t v ↔ SpellsBare d t v
  texts_both t v = (to, from v)
    where
      at : (x : Bare) → v ≡ x → SpellsBare d t x → SpellsBare d t v
      at x e h = subst (SpellsBare d t) (sym e) h

      to : BareTexts (is_rfc9651 d) t v → SpellsBare d t v
      to = ⊎_elim
          (⊎_elim (λ h. at (Integer h.0) h.1 h.2) (λ h. at (Decimal h.0) h.1 h.2))
          (⊎_elim (λ h. at (Text h.0) h.2 h.1)
          (⊎_elim (λ h. at (Token h.0) h.2 h.1)
          (⊎_elim (λ h. at (Boolean h.0) h.2 h.1)
          (⊎_elim (λ (on, (n, h, e)). at (Date n) e (on, h))
          (⊎_elim (λ h. at (Blob h.0) h.2 h.1)
          (λ (on, (s, h, e)). at (Shown s) e (on, h)))))))

      from : (v : Bare) → SpellsBare d t v → BareTexts (is_rfc9651 d) t v
      from (Integer n) h = inl (inl (n, refl, h))
      from (Decimal n) h = inl (inr (n, refl, h))
      from (Text s) h = inr (inl (s, h, refl))
      from (Token s) h = inr (inr (inl (s, h, refl)))
      from (Blob s) h = inr (inr (inr (inr (inr (inl (s, h, refl))))))
      from (Boolean s) h = inr (inr (inr (inl (s, h, refl))))
      from (Date n) h = inr (inr (inr (inr (inl (h.0, (n, h.1, refl))))))
      from (Shown s) h = inr (inr (inr (inr (inr (inr (h.0, (s, h.1, refl)))))))

  pub bare_starts : Reads BareState Bare GoodBare ResidualBare (SpellsBare d) (bare_start d) None
  bare_starts = let c = is_rfc9651 d in reads_iff texts_both
      (reads_either (reads_into InNumber (λ s g. g) (λ s t v. same) number_starts)
      (reads_either
      (reads_mapped {GoodS = AnyState} InText Text (λ s g. tt) (λ s t v. same)
      (reads_iff text_both (reads_after 34 (Inside []) tt)))
      (reads_either
      (reads_mapped InToken Token (λ s g. tt) (λ s t v. same)
      (word_starts is_token_start is_in_token))
      (reads_either
      (reads_mapped {GoodS = AnyState} InBoolean Boolean (λ s g. tt) (λ s t v. same)
      (reads_iff boolean_both (reads_after 63 QuestionMark tt)))
      (reads_either
      (reads_where c
      (reads_mapped InDate Date (λ s g. g) (λ s t v. same) (reads_after 64 Sign tt)))
      (reads_either
      (reads_mapped InBlob Blob (λ s g. g) (λ s t v. same)
      (reads_iff blob_both (reads_after 58 (Group [] H0) tt)))
      (reads_where c
      (reads_mapped InShown Shown (λ s g. g) (λ s t v. same)
      (reads_iff shown_both (reads_after 37 Quote tt))))
      (blob_apart c) (λ v w. λ e. absurd cc))
      (date_apart c) (λ v w. λ e. absurd cc))
      (boolean_apart c) (λ v w. λ e. absurd cc))
      (token_apart c) (λ v w. λ e. absurd cc))
      (text_apart c) (λ v w. λ e. absurd cc))
      (number_apart c) (λ v w. λ e. absurd cc))
