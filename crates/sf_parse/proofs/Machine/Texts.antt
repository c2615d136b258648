-- Strings, words and booleans are read by their machines.
use Rattle.std.proofs.Common.{◌≡◌, ℕ, Bool, true, false, List, [], ◌∷◌, ◌++◌, Some, None, ⊎_elim}
use Rattle.std.proofs.Common.{refl, sym, ap, ap₂, ◌∙◌, subst, ◌⊎◌, arith, append_assoc, append-nil}
use Rattle.sf_value.specs.Grammar.Words.{Every, IsWord}
use Rattle.sf_value.specs.Grammar.Classes.{is_visible}
use Rattle.sf_value.specs.Grammar.Strings.{is_escaped, escaped}
use Rattle.sf_value.specs.Grammar.Tokens.{SpellsWord}
use Rattle.sf_parse.specs.Machine.Language.{Reads, Live}
use Rattle.sf_parse.specs.Machine.Texts.{ResidualWord, word_start, word_step, ResidualText}
use Rattle.sf_parse.specs.Machine.Texts.{TextState}
use Rattle.sf_parse.specs.Machine.Texts.{Inside, Escaped, Closed, text_step, text_finish}
use Rattle.sf_parse.specs.Machine.Texts.{ResidualBoolean, boolean_step, boolean_finish}
use Rattle.sf_parse.specs.declared.boolean.BooleanState.{BooleanState}
use Rattle.sf_parse.specs.declared.boolean.BooleanState.TheVariants.{QuestionMark, WithValue}
use Rattle.sf_value.proofs.Words.{allow_cases}

abbrev pub AnyState : {S : Type 0} → S → Type 0
AnyState s = Unit {0}

-- words
pub word_reads : (q : ℕ → Bool) (bytes : List ℕ)
    → Reads (List ℕ) (List ℕ) AnyState (ResidualWord q) (ResidualWord q bytes) (word_step q bytes)
    (Some bytes)
word_reads q bytes = record {
  taken = λ b u v h. (
    bytes ++ b ∷ [],
    rw h.0.0 refl,
    (
      h.0.1,
      h.1
          ∙ sym (append_assoc bytes (b ∷ []) u),
    ),
  );
  gives = λ b u v s n h. let k = allow_cases (q b) (bytes ++ b ∷ []) s n in (
    (k.0, h.0),
    h.1
        ∙ ap (λ y. y ++ u) k.1 ∙ append_assoc bytes (b ∷ []) u,
  );
  good = λ b s n. tt;
  ends = λ v h. ap Some (sym (h.1 ∙ append-nil bytes));
  ended = λ v e. (tt, (let e' : v ≡ bytes = cc in e') ∙ sym (append-nil bytes));
}

pub word_starts : (p q : ℕ → Bool)
    → Reads (List ℕ) (List ℕ) AnyState (ResidualWord q) (SpellsWord p q) (word_start p) None
word_starts p q = record {
  taken = λ b u v h. word_taken p q b u v h.0 h.1;
  gives = λ b u v s n h. word_gives p q b u v s (allow_cases (p b) (b ∷ []) s n) h.0 h.1;
  good = λ b s n. tt;
  ends = λ v h. absurd (subst (IsWord p q) (sym h.0) h.1);
  ended = λ v e. absurd cc;
}
  where
    word_taken : (p q : ℕ → Bool) (b : ℕ) (u v : List ℕ) → b ∷ u ≡ v → IsWord p q v
        → (s : List ℕ) × (word_start p b ≡ Some s) × ResidualWord q s u v
    word_taken p q b u v e h = let k = subst (IsWord p q) (sym e) h in
        (b ∷ [], rw k.0 refl, (k.1, sym e))

    word_gives : (p q : ℕ → Bool) (b : ℕ) (u v s : List ℕ) → (p b ≡ true) × (s ≡ b ∷ []) → Every q u
        → v ≡ s ++ u → SpellsWord p q (b ∷ u) v
    word_gives p q b u v s k h e = let e' : v ≡ b ∷ u = e
        ∙ ap (λ y. y ++ u) k.1 in (sym e', subst (IsWord p q) (sym e') (k.0, h))

-- booleans
mark_taken : (b : ℕ) (u : List ℕ) (v : Bool) → ResidualBoolean QuestionMark (b ∷ u) v
    → (s : BooleanState) × (boolean_step QuestionMark b ≡ Some s) × ResidualBoolean s u v
mark_taken b u v h = (WithValue v, grind arith, grind arith)

mark_gives : (b : ℕ) (u : List ℕ) (v : Bool) (s : BooleanState) → boolean_step QuestionMark b
    ≡ Some s
    → ResidualBoolean s u v → ResidualBoolean QuestionMark (b ∷ u) v
mark_gives b u v s n h = grind arith

pub boolean_reads : (s : BooleanState) → AnyState s
    → Reads BooleanState Bool AnyState ResidualBoolean (ResidualBoolean s) (boolean_step s)
    (boolean_finish s)
boolean_reads QuestionMark g = record {
  taken = mark_taken;
  gives = mark_gives;
  good = λ b s n. tt;
  ends = λ v h. absurd (cc h);
  ended = λ v e. absurd cc;
}
boolean_reads (WithValue c) g = record {
  taken = λ b u v h. absurd (cc (h.0));
  gives = λ b u v s n h. absurd cc;
  good = λ b s n. tt;
  ends = λ v h. ap Some (sym h.1);
  ended = λ v e. (refl, cc);
}

pub boolean_lives : (s : BooleanState) → Live Bool (ResidualBoolean s)
boolean_lives QuestionMark = record { text = 49 ∷ []; value = true; whole = refl }
boolean_lives (WithValue c) = record { text = []; value = c; whole = (refl, refl) }

-- strings
inside_unescaped : (bytes : List ℕ) (b c : ℕ) → is_escaped c ≡ false → is_visible c ≡ true → b ≡ c
    → text_step (Inside bytes) b ≡ Some (Inside (bytes ++ b ∷ []))
inside_unescaped bytes b c i h e = grind arith

inside_taken : (bytes : List ℕ) (b : ℕ) (u v s : List ℕ) → b ∷ u ≡ escaped s ++ 34 ∷ []
    → Every is_visible s → v ≡ bytes ++ s
    → (t : TextState) × (text_step (Inside bytes) b ≡ Some t) × ResidualText t u v
inside_taken bytes b u v [] e h k = (
  Closed bytes,
  grind arith,
  (
    (let e' : u ≡ [] = cc in e'),
    k
        ∙ append-nil bytes,
  ),
)
inside_taken bytes b u v (c ∷ s) e h k = go (is_escaped c) refl
  where
    go : (x : Bool) → is_escaped c ≡ x
        → (t : TextState) × (text_step (Inside bytes) b ≡ Some t) × ResidualText t u v
    go true i =
        let e1 : b ∷ u ≡ 92 ∷ (c ∷ (escaped s ++ 34 ∷ [])) = rw i at e in
        let e2 : b ≡ 92 = cc in (
          Escaped bytes,
          grind arith,
          (
            c,
            s,
            (let e3 : u ≡ c ∷ (escaped s ++ 34 ∷ []) = cc in
                e3),
            i,
            h.1,
            k,
          ),
        )
    go false i =
        let e1 : b ∷ u ≡ c ∷ (escaped s ++ 34 ∷ []) = rw i at e in
        let e2 : b ≡ c = cc in (
          Inside (bytes ++ b ∷ []),
          inside_unescaped bytes b c i h.0 e2,
          (
            s,
            (let e3 : u ≡ escaped s ++ 34 ∷ [] = cc in
                e3),
            h.1,
            k
                ∙ ap (λ y. bytes ++ y ∷ s) (sym e2) ∙ sym (append_assoc bytes (b ∷ []) s),
          ),
        )

inside_cases : (bytes : List ℕ) (b : ℕ) (t : TextState) → text_step (Inside bytes) b ≡ Some t
    → ((b ≡ 34)
    × (t ≡ Closed bytes)) ⊎ (((b ≡ 92) × (t ≡ Escaped bytes)) ⊎ ((is_escaped b ≡ false)
    × (is_visible b ≡ true) × (t ≡ Inside (bytes ++ b ∷ []))))
inside_cases bytes b t n = grind arith

escaped_is : (c : ℕ) (s : List ℕ) → is_escaped c ≡ true → escaped (c ∷ s) ≡ 92 ∷ (c ∷ escaped s)
escaped_is c s i = rw i refl

unescaped_is : (c : ℕ) (s : List ℕ) → is_escaped c ≡ false → escaped (c ∷ s) ≡ c ∷ escaped s
unescaped_is c s i = rw i refl

escaped_visible : (c : ℕ) → is_escaped c ≡ true → is_visible c ≡ true
escaped_visible c i = grind arith

inside_gives : (bytes : List ℕ) (b : ℕ) (u v : List ℕ) (t : TextState)
    → text_step (Inside bytes) b ≡ Some t → ResidualText t u v
    → ResidualText (Inside bytes) (b ∷ u) v
inside_gives bytes b u v t n h = ⊎_elim
    (λ k. let r = subst (λ y. ResidualText y u v) k.1 h in (
      [],
      ap₂ (λ x y. x ∷ y) k.0 r.0,
      tt,
      r.1
          ∙ sym (append-nil bytes),
    ))
    (⊎_elim
    (λ k. let r = subst (λ y. ResidualText y u v) k.1 h in (
      r.0 ∷ r.1,
      ap₂ (λ x y. x ∷ y) k.0 r.2
          ∙ sym (ap (λ y. y ++ 34 ∷ []) (escaped_is r.0 r.1 r.3)),
      (escaped_visible r.0 r.3, r.4),
      r.5,
    ))
    (λ k. let r = subst (λ y. ResidualText y u v) k.2 h in (
      b ∷ r.0,
      ap (λ y. b ∷ y) r.1
          ∙ sym (ap (λ y. y ++ 34 ∷ []) (unescaped_is b r.0 k.0)),
      (k.1, r.2),
      r.3
          ∙ append_assoc bytes (b ∷ []) r.0,
    )))
    (inside_cases bytes b t n)

escaped_taken : (bytes : List ℕ) (b : ℕ) (u v : List ℕ) → ResidualText (Escaped bytes) (b ∷ u) v
    → (t : TextState) × (text_step (Escaped bytes) b ≡ Some t) × ResidualText t u v
escaped_taken bytes b u v h =
    let e : h.0 ≡ b = cc (h.2) in
    let e' : u ≡ escaped h.1 ++ 34 ∷ [] = cc (h.2) in (
      Inside (bytes ++ b ∷ []),
      rw (ap is_escaped (sym e) ∙ h.3) refl,
      (
        h.1,
        e',
        h.4,
        h.5
            ∙ ap (λ y. bytes ++ y ∷ h.1) e ∙ sym (append_assoc bytes (b ∷ []) h.1),
      ),
    )

escaped_gives : (bytes : List ℕ) (b : ℕ) (u v : List ℕ) (t : TextState)
    → text_step (Escaped bytes) b ≡ Some t → ResidualText t u v
    → ResidualText (Escaped bytes) (b ∷ u) v
escaped_gives bytes b u v t n h =
    let k = allow_cases (is_escaped b) (Inside (bytes ++ b ∷ [])) t n in
    let r = subst (λ y. ResidualText y u v) k.1 h in
    (b, r.0, ap (λ y. b ∷ y) r.1, k.0, r.2, r.3 ∙ append_assoc bytes (b ∷ []) r.0)

nil_end : (w f : List ℕ) (c : ℕ) → [] ≡ w ++ c ∷ f → ⊥
nil_end [] f c e = cc
nil_end (d ∷ w) f c e = cc

pub text_reads : (s : TextState) → AnyState s
    → Reads TextState (List ℕ) AnyState ResidualText (ResidualText s) (text_step s) (text_finish s)
text_reads (Inside bytes) g = record {
  taken = λ b u v h. inside_taken bytes b u v h.0 h.1 h.2 h.3;
  gives = inside_gives bytes;
  good = λ b s n. tt;
  ends = λ v h. absurd (nil_end (escaped h.0) [] 34 h.1);
  ended = λ v e. absurd cc;
}
text_reads (Escaped bytes) g = record {
  taken = escaped_taken bytes;
  gives = escaped_gives bytes;
  good = λ b s n. tt;
  ends = λ v h. absurd (cc (h.2));
  ended = λ v e. absurd cc;
}
text_reads (Closed bytes) g = record {
  taken = λ b u v h. absurd (cc (h.0));
  gives = λ b u v s n h. absurd cc;
  good = λ b s n. tt;
  ends = λ v h. ap Some (sym h.1);
  ended = λ v e. (refl, cc);
}

pub text_lives : (s : TextState) → Live (List ℕ) (ResidualText s)
text_lives (Inside bytes) = record {
  text = 34 ∷ [];
  value = bytes;
  whole = (
    [],
    refl,
    tt,
    sym (append-nil bytes),
  );
}
text_lives (Escaped bytes) = record {
  text = 34 ∷ 34 ∷ [];
  value = bytes ++ 34 ∷ [];
  whole = (
    34,
    [],
    refl,
    refl,
    tt,
    refl,
  );
}
text_lives (Closed bytes) = record { text = []; value = bytes; whole = (refl, refl) }
