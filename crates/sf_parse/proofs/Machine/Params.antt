-- Parameters are read by their machine.
use Rattle.std.specs.Option.{option_map}
use Rattle.std.proofs.Common.{◌≡◌, ℕ, true, ◌==◌, List, [], ◌∷◌, ◌++◌, Option, Some, ⊎_elim, refl}
use Rattle.std.proofs.Common.{sym, ap, ◌∙◌, subst, inl, inr, arith, append-nil, append_assoc}
use Rattle.std.proofs.Common.{eqb-true}
use Rattle.sf_value.specs.Grammar.Words.{Every, allow}
use Rattle.sf_value.specs.Grammar.Classes.{is_sp, is_key_start, is_in_key}
use Rattle.sf_value.specs.Grammar.Pairs.{Pairs, settle, put, Pairs}
use Rattle.sf_value.specs.Grammar.Tokens.{IsKey}
use Rattle.sf_value.specs.Grammar.Parameters.{SpellsValue}
use Rattle.sf_value.specs.declared.dialect.Dialect.{Dialect}
use Rattle.sf_value.specs.declared.value.Bare.{Bare}
use Rattle.sf_value.specs.declared.value.Bare.TheVariants.{Boolean}
use Rattle.sf_parse.specs.Machine.Language.{Either, After, Nothing, Reads, Live, is_follow}
use Rattle.sf_parse.specs.Machine.Language.{is_after}
use Rattle.sf_parse.specs.Machine.Texts.{word_start, word_step}
use Rattle.sf_parse.specs.Machine.Bares.{BareState}
use Rattle.sf_parse.specs.Machine.Bares.{bare_step, bare_finish}
use Rattle.sf_parse.specs.Machine.Params.{ParamsState, Between, Opened, InParamKey, EqualsParam}
use Rattle.sf_parse.specs.Machine.Params.{InValue, MoreParams, PutParams, KeyParams, ResidualParams}
use Rattle.sf_parse.specs.Machine.Params.{GoodParams, between_step, key_step, params_step}
use Rattle.sf_parse.specs.Machine.Params.{params_finish}
use Rattle.sf_parse.proofs.Machine.Language.{reads_iff, reads_either, reads_after, reads_then}
use Rattle.sf_parse.proofs.Machine.Language.{reads_first}
use Rattle.sf_parse.proofs.Machine.Language.{reads_past, reads_maybe, map_cases, onward_cases}
use Rattle.sf_parse.proofs.Machine.Language.{and_then_cases}
use Rattle.sf_value.proofs.Words.{allow_cases, option_or_cases}
use Rattle.sf_parse.proofs.Classes.{not_follow}
use Rattle.sf_value.proofs.Settling.{put_settled, put_more}
use Rattle.sf_parse.proofs.Machine.Texts.{word_reads, word_starts}
use Rattle.sf_parse.proofs.Machine.Bares.{same, bare_reads, bare_starts, bare_lives, bare_apart}

eq_apart : (b c d : ℕ) → (b == c) ≡ true → (b == d) ≡ true → (c ≡ d → ⊥) → ⊥
eq_apart b c d e n h = h (sym (eqb-true b c e) ∙ eqb-true b d n)

not_start : (b : ℕ) → b ≡ 32 → is_key_start b ≡ true → ⊥
not_start b e k = let n : is_key_start 32 ≡ true = rw e at k in cc

pub semicolon_follows : (b : ℕ) → (b == 59) ≡ true → is_follow b ≡ true
semicolon_follows b e = ap is_follow (eqb-true b 59 e)

key_apart : (ps : Pairs Bare) (x : List ℕ) (b : ℕ) (t : ParamsState) → is_in_key b ≡ true
    → key_step ps x b ≡ Some t → ⊥
key_apart ps x b t e n = ⊎_elim
    (λ k. let i = eqb-true b 61 (allow_cases (b == 61) (EqualsParam ps x) t k).0 in
    (let f : is_in_key 61 ≡ true = rw i at e in cc))
    (λ k. let i = eqb-true b 59
    (allow_cases (b == 59) (Opened (put ps x (Boolean true))) t k.1).0 in
    (let f : is_in_key 59 ≡ true = rw i at e in cc))
    (option_or_cases (allow (b == 61) (EqualsParam ps x))
    (between_step (put ps x (Boolean true)) b) t n)

-- Parameters that may end don't go on with what may be after an item.
pub after_follows : (b : ℕ) → is_after b ≡ true → is_follow b ≡ true
after_follows b e = grind arith

not_semicolon : (b : ℕ) → (b == 59) ≡ true → is_after b ≡ true → ⊥
not_semicolon b e f = let n : is_after 59 ≡ true = rw (eqb-true b 59 e) at f in cc

pub not_equals : (b : ℕ) → (b == 61) ≡ true → is_after b ≡ true → ⊥
not_equals b e f = let n : is_after 61 ≡ true = rw (eqb-true b 61 e) at f in cc

pub not_key : (b : ℕ) → is_in_key b ≡ true → is_after b ≡ true → ⊥
not_key b e f = not_follow is_in_key (
  refl,
  (refl, (refl, (refl, (refl, tt)))),
) b e (after_follows b f)

pub between_apart : (ps : Pairs Bare) (b : ℕ) (t : ParamsState) → between_step ps b ≡ Some t
    → is_after b ≡ true → ⊥
between_apart ps b t n f = not_semicolon b (allow_cases (b == 59) (Opened ps) t n).0 f

key_step_apart : (ps : Pairs Bare) (k : List ℕ) (b : ℕ) (t : ParamsState) → key_step ps k b ≡ Some t
    → is_after b ≡ true → ⊥
key_step_apart ps k b t n f = ⊎_elim
    (λ e. not_equals b (allow_cases (b == 61) (EqualsParam ps k) t e).0 f)
    (λ e. between_apart (put ps k (Boolean true)) b t e.1 f)
    (option_or_cases (allow (b == 61) (EqualsParam ps k))
    (between_step (put ps k (Boolean true)) b) t n)

module _ (d : Dialect) where
  abbrev ReadsParams : (List ℕ → Pairs Bare → Type 0) → (ℕ → Option ParamsState)
      → Option (Pairs Bare) → Type 0
  ReadsParams = Reads ParamsState (Pairs Bare) GoodParams (ResidualParams d)

  -- one parameter, and further ones
  one_more : (ps : Pairs Bare) (k : List ℕ) (x : Bare) (gap value suffix u : List ℕ)
      (v : Pairs Bare)
      → u ≡ 59 ∷ (gap ++ (k ++ (value ++ suffix))) → Every is_sp gap → IsKey k
      → SpellsValue d value x
      → PutParams d ps k x suffix v → MoreParams d ps u v
  one_more ps k x gap value suffix u v e f i s (raw, c, r) =
      let joined : 59 ∷ (gap ++ (k ++ (value ++ suffix))) ≡ (59 ∷ (gap ++ (k ++ value)))
      ++ suffix = simp append_assoc in (
        (k, x) ∷ raw,
        c
            ∙ put_more ps k x raw,
        (
          59 ∷ (gap ++ (k ++ value)),
          suffix,
          e
              ∙ joined,
          (gap, value, refl, f, i, s),
          r,
        ),
      )

  -- Further parameters begin with a semicolon, or are none.
  more_to : (ps : Pairs Bare) (u : List ℕ) (v : Pairs Bare) → settle ps ≡ ps
      → Either (After 59 (ResidualParams d (Opened ps))) (Nothing ps) u v → MoreParams d ps u v
  more_to ps u v g (inl (
    t,
    e,
    (gap, rest, e', f, (k, prefix, suffix, e2, w, inl (t2, e3, (x, f2, b2, e4, sb, m)))),
  )) =
      one_more ps k x gap (61 ∷ f2) b2 u v (let a = w.0 in cc) f w.1 (inr (f2, refl, sb)) m
  more_to ps u v g (inl (t, e, (gap, rest, e', f, (k, prefix, suffix, e2, w, inr m)))) =
      one_more ps k (Boolean true) gap [] suffix u v (let a = w.0 in cc) f w.1 (inl (refl, refl)) m
  more_to ps u v g (inr h) = ([], h.1 ∙ sym g ∙ sym (ap settle (append-nil ps)), h.0)

  after_key : (ps : Pairs Bare) (k : List ℕ) (x : Bare) (value suffix : List ℕ) (v : Pairs Bare)
      → SpellsValue d value x → PutParams d ps k x suffix v → KeyParams d ps k (value ++ suffix) v
  after_key ps k x value suffix v (inl (
    e,
    n,
  )) m = inr (subst (λ y. PutParams d ps k (Boolean true) (y
      ++ suffix) v) (sym n) (subst (λ y. PutParams d ps k y suffix v) e m))
  after_key ps k x value suffix v (inr (b2, e, sb)) m = inl (
    b2 ++ suffix,
    ap (λ y. y ++ suffix) e,
    (x, b2, suffix, refl, sb, m),
  )

  more_from : (ps : Pairs Bare) (u : List ℕ) (v : Pairs Bare) → settle ps ≡ ps → MoreParams d ps u v
      → Either (After 59 (ResidualParams d (Opened ps))) (Nothing ps) u v
  more_from ps u v g ([], c, e) = inr (e, c ∙ ap settle (append-nil ps) ∙ g)
  more_from ps u v g (p ∷ raw, c, (prefix, suffix, e, (gap, value, e1, f, i, s), r)) =
      let joined : (59 ∷ (gap ++ (p.0 ++ value)))
      ++ suffix ≡ 59 ∷ (gap ++ (p.0 ++ (value ++ suffix))) = simp append_assoc in
      let m : PutParams d ps p.0 p.1 suffix v = (raw, c ∙ sym (put_more ps p.0 p.1 raw), r) in
      inl (
        gap ++ (p.0 ++ (value ++ suffix)),
        e ∙ ap (λ y. y ++ suffix) e1
            ∙ joined,
        (
          gap,
          p.0 ++ (value ++ suffix),
          refl,
          f,
          (p.0, p.0, value ++ suffix, refl, (refl, i), after_key ps p.0 p.1 value suffix v s m),
        ),
      )

  pub between_reads : (ps : Pairs Bare) → settle ps ≡ ps
      → ReadsParams (MoreParams d ps) (between_step ps) (Some ps)
  between_reads ps g = reads_iff (λ u v. (
    more_to ps u v g,
    more_from ps u v g,
  )) (reads_maybe 59 (Opened ps) ps g)

  key_reads : (ps : Pairs Bare) (k : List ℕ) → settle ps ≡ ps
      → ReadsParams (KeyParams d ps k) (key_step ps k) (Some (put ps k (Boolean true)))
  key_reads ps k g = reads_either (reads_after 61 (EqualsParam ps k) g)
      (between_reads (put ps k (Boolean true)) (put_settled ps k (Boolean true))) apart
      (λ v w. λ e. absurd cc)
    where
      apart : (b : ℕ) (s t : ParamsState) → allow (b == 61) (EqualsParam ps k) ≡ Some s
          → between_step (put ps k (Boolean true)) b ≡ Some t → ⊥
      apart b s t e n = eq_apart b 61 59 (allow_cases (b == 61) (EqualsParam ps k) s e).0
          (allow_cases (b == 59) (Opened (put ps k (Boolean true))) t n).0 (λ e. omega arith)

  pub params_reads : (s : ParamsState) → GoodParams s
      → ReadsParams (ResidualParams d s) (params_step d s) (params_finish s)
  params_reads (Between ps) g = between_reads ps g
  params_reads (Opened ps) g = reads_past is_sp (Opened ps) g (λ t v. same) apart
      (reads_first (InParamKey ps) (λ k t. g) (λ k t v. same)
      (word_starts is_key_start is_in_key))
    where
      apart : (b : ℕ) (t : ParamsState) → is_sp b ≡ true
          → option_map (InParamKey ps) (word_start is_key_start b) ≡ Some t → ⊥
      apart b t e n =
          let c = map_cases (InParamKey ps) (word_start is_key_start b) t n in
          not_start b (eqb-true b 32 e) (allow_cases (is_key_start b) (b ∷ []) c.0 c.1).0
  params_reads (InParamKey ps k) g = reads_then (InParamKey ps) (λ k t. g) (λ k t v. same)
      (word_reads is_in_key k) (λ x e. key_reads ps x g) apart
    where
      apart : (x : List ℕ) (b : ℕ) (s : List ℕ) (t : ParamsState) → Some k ≡ Some x
          → word_step is_in_key k b ≡ Some s → key_step ps x b ≡ Some t → ⊥
      apart x b s t e n m = key_apart ps x b t (allow_cases (is_in_key b) (k ++ b ∷ []) s n).0 m
  params_reads (EqualsParam ps k) g = reads_first (InValue ps k) (λ s h. (
    g,
    h,
  )) (λ s t v. same) (bare_starts d)
  params_reads (InValue ps k s) g = reads_then (InValue ps k) (λ s h. (
    g.0,
    h,
  )) (λ s t v. same) (bare_reads s g.1)
      (λ x e. between_reads (put ps k x) (put_settled ps k x)) apart
    where
      apart : (x : Bare) (b : ℕ) (s' : BareState) (t : ParamsState) → bare_finish s ≡ Some x
          → bare_step s b ≡ Some s' → between_step (put ps k x) b ≡ Some t → ⊥
      apart x b s' t e n m = bare_apart s x b s' e n
          (semicolon_follows b (allow_cases (b == 59) (Opened (put ps k x)) t m).0)

  pub no_raw : (ps : Pairs Bare) → settle ps ≡ ps → MoreParams d ps [] ps
  no_raw ps g = ([], sym g ∙ sym (ap settle (append-nil ps)), refl)

  pub params_lives : (s : ParamsState) → GoodParams s → Live (Pairs Bare) (ResidualParams d s)
  params_lives (Between ps) g = record { text = []; value = ps; whole = no_raw ps g }
  params_lives (Opened ps) g = let q = put ps (97 ∷ []) (Boolean true) in
      record {
        text = 97 ∷ [];
        value = q;
        whole = (
          [],
          97 ∷ [],
          refl,
          tt,
          (
            97 ∷ [],
            97 ∷ [],
            [],
            refl,
            (refl, (refl, tt)),
            inr (no_raw q (put_settled ps (97 ∷ []) (Boolean true))),
          ),
        );
      }
  params_lives (InParamKey ps k) g = let q = put ps k (Boolean true) in
      record {
        text = [];
        value = q;
        whole = (
          k,
          [],
          [],
          refl,
          (tt, sym (append-nil k)),
          inr (no_raw q (put_settled ps k (Boolean true))),
        );
      }
  params_lives (EqualsParam ps k) g = let q = put ps k (Boolean true) in
      record {
        text = 63 ∷ 49 ∷ [];
        value = q;
        whole = (
          Boolean true,
          63 ∷ 49 ∷ [],
          [],
          refl,
          refl,
          no_raw q (put_settled ps k (Boolean true)),
        );
      }
  params_lives (InValue ps k s) g =
      let l = bare_lives s g.1 in
      let q = put ps k l.value in
      record {
        text = l.text;
        value = q;
        whole = (
          l.value,
          l.text,
          [],
          sym (append-nil l.text),
          l.whole,
          no_raw q (put_settled ps k l.value),
        );
      }

  pub params_apart : (s : ParamsState) (v : Pairs Bare) (b : ℕ) (t : ParamsState)
      → params_finish s ≡ Some v → params_step d s b ≡ Some t → is_after b ≡ true → ⊥
  params_apart (Between ps) v b t e n f = between_apart ps b t n f
  params_apart (Opened ps) v b t e n f = cc
  params_apart (InParamKey ps k) v b t e n f = ⊎_elim
      (λ o. not_key b (allow_cases (is_in_key b) (k ++ b ∷ []) o.0 o.1).0 f)
      (λ o. key_step_apart ps o.0 b t o.3 f)
      (onward_cases (InParamKey ps) (word_step is_in_key k b) (Some k) (λ k. key_step ps k b) t n)
  params_apart (EqualsParam ps k) v b t e n f = cc
  params_apart (InValue ps k s) v b t e n f =
      let c = and_then_cases (bare_finish s) (λ x. Some (put ps k x)) v e in
      ⊎_elim
      (λ o. bare_apart s c.0 b o.0 c.1 o.1 (after_follows b f))
      (λ o. between_apart (put ps k o.0) b t o.3 f)
      (onward_cases (InValue ps k) (bare_step s b) (bare_finish s)
      (λ x. between_step (put ps k x) b) t n)
