-- Parsing parameters.
use Rattle.std.proofs.Common.{◌≡◌, ℕ, zero, suc, ◌≤◌, Bool, true, false, ◌||◌, ◌==◌, List, []}
use Rattle.std.proofs.Common.{◌∷◌, ◌++◌, length, Option, Some, refl, sym, ap, ap₂, ◌∙◌, subst}
use Rattle.std.proofs.Common.{append_assoc, append-nil, length-append, inl, inr, arith, eqb-true}
use Rattle.std.proofs.lemmas.Bool.Decides.{nat_tests}
use Rattle.sf_value.specs.declared.dialect.Dialect.{Dialect}
use Rattle.sf_value.specs.declared.value.Bare.{Bare}
use Rattle.sf_value.specs.declared.value.Bare.TheVariants.{Boolean}
use Rattle.sf_value.specs.Grammar.Words.{Every}
use Rattle.sf_value.specs.Grammar.Classes.{is_sp, is_key_start, is_in_key, is_in_token}
use Rattle.sf_value.specs.Grammar.Pairs.{Pairs, settle}
use Rattle.sf_value.specs.Grammar.Tokens.{IsKey}
use Rattle.sf_value.specs.Grammar.Parameters.{SpellsValue, SpellsRaw, SpellsParams}
use Rattle.sf_rfc.specs.Rfc9651.Words.{and_then, first_is, discard, set_key}
use Rattle.sf_rfc.specs.Rfc9651.Alphabets.{is_SP}
use Rattle.sf_rfc.specs.Rfc9651.Parsing.{parse_key, param_value, params_loop, parse_params}
use Rattle.sf_rfc.specs.ParsingLaws.{is_in_params, ParametersAgree}
use Rattle.sf_rfc.proofs.ParsingWords.{keys_agree}
use Rattle.sf_rfc.proofs.ParsingBareItems.{bare_items_agree, first_less}
use Rattle.sf_rfc.proofs.ParsingMaps.{set_settled}
use Rattle.sf_rfc.proofs.ParsingSteps.{never, some_pair, and_then_cases, if_either}

-- what is discarded
pub discarded : (p : ℕ → Bool) (t : List ℕ)
    → (gap : List ℕ) × (t ≡ gap ++ discard p t) × Every p gap
discarded p [] = ([], refl, tt)
discarded p (c ∷ t) = go (p c) refl (discarded p t)
  where
    go : (b : Bool) → p c ≡ b → (gap : List ℕ) × (t ≡ gap ++ discard p t) × Every p gap
        → (gap : List ℕ) × (c ∷ t ≡ gap ++ discard p (c ∷ t)) × Every p gap
    go true i (gap, e, h) = (c ∷ gap, rw (i, discard) (ap (λ x. c ∷ x) e), (i, h))
    go false i k = ([], rw (i, discard) refl, tt)

pub discard_none : (p : ℕ → Bool) (w : List ℕ) → first_is p w ≡ false → discard p w ≡ w
discard_none p [] f = refl
discard_none p (c ∷ w) f = rw (f, discard) refl

pub discard_gap : (p : ℕ → Bool) (gap w : List ℕ) → Every p gap → first_is p w ≡ false
    → discard p (gap ++ w) ≡ w
discard_gap p [] w h f = discard_none p w f
discard_gap p (c ∷ gap) w h f = rw (h.0, discard) (discard_gap p gap w h.1 f)

-- what a key or a value goes on with
abbrev pub is_value_or_key : ℕ → Bool
is_value_or_key c = is_in_token c || c == 61

module _ (d : Dialect) where
  -- the value of a parameter
  value_sound : (t r : List ℕ) (x : Bare) → param_value d t ≡ Some (x, r)
      → (prefix : List ℕ) × (t ≡ prefix ++ r) × SpellsValue d prefix x
  value_sound [] r x e =
      let k = some_pair (Boolean true) x [] r e in ([], k.1, inl (sym k.0, refl))
  value_sound (c ∷ t) r x e = elim (if_either (c == 61) _ _ (x, r) e) [
    | inl k ↦
        let (prefix, i, s) = (bare_items_agree d).sound t r x k.1 in
        (61 ∷ prefix, ap₂ (λ y z. y ∷ z) (eqb-true c 61 k.0) i, inr (prefix, refl, s))
    | inr k ↦
        let j = some_pair (Boolean true) x (c ∷ t) r k.1 in ([], j.1, inl (sym j.0, refl))
  ]

  no_equals : (t r : List ℕ) (x : Bare) → x ≡ Boolean true → t ≡ []
      → first_is (λ c. c == 61) r ≡ false → param_value d (t ++ r) ≡ Some (x, r)
  no_equals t [] x e i f = rw (e, i) refl
  no_equals t (c ∷ r) x e i f = rw (e, i) (rw (f, param_value) refl)

  -- sound
  abbrev Taken : Pairs Bare → List ℕ → Pairs Bare → List ℕ → Type 0
  Taken raw t qs r =
      (prefix : List ℕ) × (more : Pairs Bare) × (t ≡ prefix ++ r) × SpellsRaw d prefix more
      × (qs ≡ settle (raw ++ more))

  none_taken : (raw : Pairs Bare) (t : List ℕ) (qs : Pairs Bare) (r : List ℕ)
      → ◌≡◌ {A = Option (Pairs Bare × List ℕ)} (Some (settle raw, t)) (Some (qs, r))
      → Taken raw t qs r
  none_taken raw t qs r e =
      let k = some_pair (settle raw) qs t r e in
      ([], [], k.1, refl, sym k.0 ∙ ap settle (sym (append-nil raw)))

  one_taken : (raw : Pairs Bare) (c : ℕ) (gap k value s : List ℕ) (x : Bare)
      (qs : Pairs Bare) (r t : List ℕ) → (c == 59) ≡ true → t ≡ gap ++ (k ++ (value ++ s))
      → Every is_sp gap → IsKey k → SpellsValue d value x → Taken (raw ++ (k, x) ∷ []) s qs r
      → Taken raw (c ∷ t) qs r
  one_taken raw c gap k value s x qs r t h i g w v (prefix, more, j, sp, e) = (
    (59 ∷ (gap ++ (k ++ value))) ++ prefix,
    (k, x) ∷ more,
    rw (eqb-true c 59 h, i, j) (simp append_assoc refl),
    (
      59 ∷ (gap ++ (k ++ value)),
      prefix,
      refl,
      (gap, value, refl, g, w, v),
      sp,
    ),
    e ∙ ap settle (append_assoc raw ((k, x) ∷ []) more),
  )

  key_taken : (t r k : List ℕ) → parse_key t ≡ Some (k, r) → (t ≡ k ++ r) × IsKey k
  key_taken t r k e =
      let (prefix, i, s) = keys_agree.sound t r k e in (i ∙ ap (λ y. y ++ r) s.0, s.1)

  params_sound : (n : ℕ) (raw : Pairs Bare) (t : List ℕ) (qs : Pairs Bare) (r : List ℕ)
      → params_loop d n (settle raw) t ≡ Some (qs, r) → Taken raw t qs r
  params_sound zero raw t qs r e = never (qs, r) e
  params_sound (suc n) raw [] qs r e = none_taken raw [] qs r e
  params_sound (suc n) raw (c ∷ t) qs r e = elim (if_either (c == 59) _ _ (qs, r) e) [
    | inl h ↦
        let (q, a, b) = and_then_cases (parse_key (discard is_SP t)) _ (qs, r) h.1 in
        let (p, f, g) = and_then_cases (param_value d q.1) _ (qs, r) b in
        let (gap, i, sp) = discarded is_SP t in
        let k = key_taken (discard is_SP t) q.1 q.0 a in
        let (value, j, v) = value_sound q.1 p.1 p.0 f in
        let m = subst (λ y. params_loop d n y p.1 ≡ Some (qs, r)) (set_settled raw q.0 p.0) g in
        one_taken raw c gap q.0 value p.1 p.0 qs r t h.0
        (i ∙ ap (λ y. gap ++ y) (k.0 ∙ ap (λ y. q.0 ++ y) j)) sp k.1 v
        (params_sound n (raw ++ (q.0, p.0) ∷ []) p.1 qs r m)
    | inr h ↦ none_taken raw (c ∷ t) qs r h.1
  ]

  parameters_sound : (t r : List ℕ) (qs : Pairs Bare) → parse_params d t ≡ Some (qs, r)
      → (prefix : List ℕ) × (t ≡ prefix ++ r) × SpellsParams d prefix qs
  parameters_sound t r qs e =
      let (prefix, more, i, s, j) = params_sound (suc (length t)) [] t qs r e in
      (prefix, i, (more, j, s))

  -- whole: no key, no value and no semicolon goes on with what may follow
  pub raw_first : (t r : List ℕ) (raw : Pairs Bare) → SpellsRaw d t raw
      → first_is is_in_params r ≡ false → first_is is_value_or_key (t ++ r) ≡ false
  raw_first t r [] s f = rw s (first_less is_value_or_key is_in_params less r f)
    where
      less : (c : ℕ) → is_in_params c ≡ false → is_value_or_key c ≡ false
      less c h = grind (arith, nat_tests)
  raw_first t r (p ∷ raw) (prefix, suffix, i, (gap, value, j, g, k, v), s) f = rw (i, j) refl

  value_read : (t r : List ℕ) (x : Bare) → SpellsValue d t x
      → first_is is_value_or_key r ≡ false → param_value d (t ++ r) ≡ Some (x, r)
  value_read t r x (inl (e, i)) f =
      no_equals t r x e i (first_less (λ c. c == 61) is_value_or_key less r f)
    where
      less : (c : ℕ) → is_value_or_key c ≡ false → (c == 61) ≡ false
      less c h = grind (arith, nat_tests)
  value_read t r x (inr (suffix, i, s)) f =
      rw i ((bare_items_agree d).whole suffix r x s
      (first_less is_in_token is_value_or_key less r f))
    where
      less : (c : ℕ) → is_value_or_key c ≡ false → is_in_token c ≡ false
      less c h = grind (arith, nat_tests)

  value_first : (t r : List ℕ) (x : Bare) → SpellsValue d t x
      → first_is is_value_or_key r ≡ false → first_is is_in_key (t ++ r) ≡ false
  value_first t r x (inl (e, i)) f = rw i (first_less is_in_key is_value_or_key less r f)
    where
      less : (c : ℕ) → is_value_or_key c ≡ false → is_in_key c ≡ false
      less c h = grind (arith, nat_tests)
  value_first t r x (inr (suffix, i, s)) f = rw i refl

  none_read : (n : ℕ) (raw : Pairs Bare) (r : List ℕ) → first_is is_in_params r ≡ false
      → params_loop d (suc n) (settle raw) r ≡ Some (settle (raw ++ []), r)
  none_read n raw [] f = ap (λ y. Some (settle y, [])) (sym (append-nil raw))
  none_read n raw (c ∷ r) f =
      rw (no_semicolon c f, params_loop) (ap (λ y. Some (settle y, c ∷ r)) (sym (append-nil raw)))
    where
      no_semicolon : (c : ℕ) → is_in_params c ≡ false → (c == 59) ≡ false
      no_semicolon c h = grind (arith, nat_tests)

  -- a round
  one_read : (n : ℕ) (ps : Pairs Bare) (gap k w s : List ℕ) (x : Bare) → Every is_sp gap → IsKey k
      → first_is is_in_key w ≡ false → param_value d w ≡ Some (x, s)
      → params_loop d (suc n) ps (59 ∷ (gap ++ (k ++ w))) ≡ params_loop d n (set_key ps k x) s
  one_read n ps gap [] w s x g h f e = absurd h
  one_read n ps gap (c ∷ k) w s x g h f e =
      let i : discard is_SP (gap ++ ((c ∷ k) ++ w)) ≡ (c ∷ k) ++ w =
      discard_gap is_SP gap ((c ∷ k) ++ w) g (no_space c h.0) in
      let j : parse_key ((c ∷ k) ++ w) ≡ Some (c ∷ k, w) =
      keys_agree.whole (c ∷ k) w (c ∷ k) (refl, h) f in
      ap (λ y. and_then (parse_key y) after) i ∙ ap (λ y. and_then y after) j
      ∙ ap (λ y. and_then y (end (c ∷ k))) e
    where
      no_space : (c : ℕ) → is_key_start c ≡ true → is_SP c ≡ false
      no_space c h = grind (arith, nat_tests)

      end : List ℕ → Bare × List ℕ → Option (Pairs Bare × List ℕ)
      end k p = params_loop d n (set_key ps k p.0) p.1

      after : List ℕ × List ℕ → Option (Pairs Bare × List ℕ)
      after q = and_then (param_value d q.1) (λ p. params_loop d n (set_key ps q.0 p.0) p.1)

  params_read : (n : ℕ) (raw more : Pairs Bare) (t r : List ℕ) → SpellsRaw d t more
      → first_is is_in_params r ≡ false → length more ≤ n
      → params_loop d (suc n) (settle raw) (t ++ r) ≡ Some (settle (raw ++ more), r)
  params_read n raw [] t r s f l = rw s (none_read n raw r f)
  params_read zero raw (p ∷ more) t r s f l = absurd (omega (arith, l))
  params_read (suc n) raw (p ∷ more) t r (prefix, suffix, i, (gap, value, j, g, k, v), s) f l =
      let first = raw_first suffix r more s f in
      let e : t ++ r ≡ 59 ∷ (gap ++ (p.0 ++ (value ++ (suffix ++ r)))) =
      rw (i, j) (simp append_assoc refl) in
      ap (λ y. params_loop d (suc (suc n)) (settle raw) y) e
      ∙ one_read (suc n) (settle raw) gap p.0 (value ++ (suffix ++ r)) (suffix ++ r) p.1 g k
      (value_first value (suffix ++ r) p.1 v first) (value_read value (suffix ++ r) p.1 v first)
      ∙ ap (λ y. params_loop d (suc n) y (suffix ++ r)) (set_settled raw p.0 p.1)
      ∙ params_read n (raw ++ p ∷ []) more suffix r s f (omega arith)
      ∙ ap (λ y. Some (settle y, r)) (append_assoc raw (p ∷ []) more)

  -- each parameter has a semicolon, so that there are no more than characters
  raw_count : (t : List ℕ) (raw : Pairs Bare) → SpellsRaw d t raw → length raw ≤ length t
  raw_count t [] s = omega arith
  raw_count t (p ∷ raw) (prefix, suffix, i, (gap, value, j, g, k, v), s) =
      omega (arith, ap length i, ap length j, raw_count suffix raw s, length-append {A = ℕ})

  parameters_whole : (t r : List ℕ) (qs : Pairs Bare) → SpellsParams d t qs
      → first_is is_in_params r ≡ false → parse_params d (t ++ r) ≡ Some (qs, r)
  parameters_whole t r qs (raw, e, s) f =
      params_read (length (t ++ r)) [] raw t r s f
      (omega (arith, raw_count t raw s, length-append {A = ℕ}))
      ∙ ap (λ y. Some (y, r)) (sym e)

pub parameters_agree : ParametersAgree
parameters_agree d = record { sound = parameters_sound d; whole = parameters_whole d }
