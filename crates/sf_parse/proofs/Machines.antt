-- What a machine that reads its own rests does over whole texts.
use Rattle.std.specs.Option.{option_and_then}
use Rattle.std.proofs.Common.{◌≡◌, ℕ, suc, ◌<◌, ◌≤◌, List, [], ◌∷◌, ◌++◌, length, take, Option}
use Rattle.std.proofs.Common.{Some, None, ⊎_elim, refl, sym, ap, ◌∙◌, subst, ◌↔◌, ◌⊎◌, inl, inr}
use Rattle.std.proofs.Common.{append_assoc, append-nil, arith, ◌+◌, ◌-◌, length-append}
use Rattle.std.proofs.Math.Seq.{take-append_seam, take-append-add}
use Rattle.std.proofs.lemmas.Bool.{cases_lt}
use Rattle.sf_value.specs.Grammar.Lines.{Continues, IsLongest}
use Rattle.sf_parse.specs.Machine.Language.{run, Machine}
use Rattle.sf_parse.proofs.Machine.Language.{and_then_cases}

pub take_past : (p q : List ℕ) (b m : ℕ) → length p < m
    → take m (p ++ b ∷ q) ≡ (p ++ b ∷ []) ++ take (m - suc (length p)) q
take_past p q b m h =
    let k = m - suc (length p) in
    let e : m ≡ length p + suc k = omega arith in
    ap (λ n. take n (p ++ b ∷ q)) e ∙ take-append-add p (b ∷ q) (suc k)
    ∙ ap (λ y. p ++ y) (let e' : take (suc k) (b ∷ q) ≡ b ∷ take k q = refl in e')
    ∙ sym (append_assoc p (b ∷ []) (take k q))

pub cases_le : (m n : ℕ) → (m ≤ n) ⊎ (n < m)
cases_le m n = ⊎_elim inr inl (cases_lt n m)

module _ {S V : Type 0} {Good : S → Type 0} {Residual : S → List ℕ → V → Type 0} {step : S → ℕ
    → Option S} {finish : S → Option V} (m : Machine S V Good Residual step finish) where
  -- a text that begins a text of a rest is run through
  pub runs : (s : S) (p u : List ℕ) (v : V) → Good s → Residual s (p ++ u) v
      → (t : S) × (run step s p ≡ Some t) × Residual t u v
  runs s [] u v g h = (s, refl, h)
  runs s (b ∷ p) u v g h =
      let k = (m.reads s g).taken b (p ++ u) v h in
      let r = runs k.0 p u v ((m.reads s g).good b k.0 k.1) k.2 in
      (r.0, rw k.1 r.1, r.2)

  pub run_good : (s t : S) (p : List ℕ) → Good s → run step s p ≡ Some t → Good t
  run_good s t [] g e = subst Good (let e' : s ≡ t = cc in e') g
  run_good s t (b ∷ p) g e = let c = and_then_cases (step s b) (λ s'. run step s' p) t e in
      run_good c.0 t p ((m.reads s g).good b c.0 c.1) c.2

  pub run_gives : (s t : S) (p u : List ℕ) (v : V) → Good s → run step s p ≡ Some t → Residual t u v
      → Residual s (p ++ u) v
  run_gives s t [] u v g e h = subst (λ y. Residual y u v) (let e' : t ≡ s = cc in e') h
  run_gives s t (b ∷ p) u v g e h =
      let c = and_then_cases (step s b) (λ s'. run step s' p) t e in
      (m.reads s g).gives b (p
      ++ u) v c.0 c.1 (run_gives c.0 t p u v ((m.reads s g).good b c.0 c.1) c.2 h)

  -- what the bytes taken leave is the rest of the state
  pub took : (s t : S) (p : List ℕ) → Good s → run step s p ≡ Some t → (u : List ℕ) (v : V)
      → Residual t u v ↔ Residual s (p ++ u) v
  took s t p g e u v = (
    run_gives s t p u v g e,
    λ h. let k = runs s p u v g h in
        subst (λ y. Residual y u v) (let e' : k.0 ≡ t = cc (k.1) in e') k.2,
  )

  -- the accepted texts
  pub accepted : (s : S) (t : List ℕ) (v : V) → Good s
      → Residual s t v ↔ (option_and_then finish (run step s t) ≡ Some v)
  accepted s t v g = (
    λ h. let k = runs s t [] v g (subst (λ y. Residual s y v) (sym (append-nil t)) h) in
        rw k.1 ((m.reads k.0 (run_good s k.0 t g k.1)).ends v k.2),
    λ e. let c = and_then_cases (run step s t) finish v e in
        subst (λ y. Residual s y v) (append-nil t)
        (run_gives s c.0 t [] v g c.1 ((m.reads c.0 (run_good s c.0 t g c.1)).ended v c.2)),
  )

  pub unique : (s : S) (t : List ℕ) (v w : V) → Good s → Residual s t v → Residual s t w → v ≡ w
  unique s t v w g h k = let e = (accepted s t v g).0 h in let e' = (accepted s t w g).0 k in cc

  -- a text is viable just if the run on it isn't stuck
  pub viable : (s : S) (p : List ℕ) → Good s
      → Continues (Residual s) p ↔ ((t : S) × (run step s p ≡ Some t))
  viable s p g = (
    λ h. let k = runs s p h.0 h.1 g h.2 in (k.0, k.1),
    λ k. let l = m.lives k.0 (run_good s k.0 p g k.1) in
        (l.text, l.value, run_gives s k.0 p l.text l.value g k.1 l.whole),
  )

  pub run_append : (s : S) (p q : List ℕ)
      → run step s (p ++ q) ≡ option_and_then (λ t. run step t q) (run step s p)
  run_append s [] q = refl
  run_append s (b ∷ p) q = go (step s b) (λ t. run_append t p q)
    where
      go : (o : Option S)
          → ((t : S) → run step t (p ++ q) ≡ option_and_then (λ t. run step t q) (run step t p))
          → option_and_then (λ t. run step t (p
          ++ q)) o ≡ option_and_then (λ t. run step t q) (option_and_then (λ t. run step t p) o)
      go None h = refl
      go (Some t) h = h t

  -- what may come next is what the step takes
  pub next : (s t : S) (p : List ℕ) (b : ℕ) → Good s → run step s p ≡ Some t
      → Continues (Residual s) (p ++ b ∷ []) ↔ ((t' : S) × (step t b ≡ Some t'))
  next s t p b g e = (
    λ h. let k = (viable s (p ++ b ∷ []) g).0 h in
        let r : option_and_then (λ t. Some t) (step t b)
        ≡ Some k.0 = rw e at (sym (run_append s p (b ∷
        []))
        ∙ k.1) in
        let c = and_then_cases (step t b) (λ t. Some t) k.0 r in (c.0, c.1),
    λ k. (viable s (p ++ b ∷ []) g).1 (k.0, run_append s p (b ∷ []) ∙ rw (e, k.1) refl),
  )

  -- the text may end just if the state has a value
  pub may_end : (s t : S) (p : List ℕ) (v : V) → Good s → run step s p ≡ Some t
      → Residual s p v ↔ (finish t ≡ Some v)
  may_end s t p v g e = (λ h. rw e at ((accepted s p v g).0 h), λ h. (accepted s p v g).1 (rw e h))

  pub viable_prefix : (L : List ℕ → V → Type 0) (p q : List ℕ) → Continues L (p ++ q)
      → Continues L p
  viable_prefix L p q h = (q ++ h.0, h.1, subst (λ y. L y h.1) (append_assoc p q h.0) h.2)

  -- where the run stops at a byte, the bytes before it are the longest viable prefix
  pub stops : (s t : S) (p q : List ℕ) (b : ℕ) → Good s → run step s p ≡ Some t → step t b ≡ None
      → IsLongest V (Residual s) (p ++ b ∷ q) (length p)
  stops s t p q b g e n = record {
    within = omega (arith, length-append p (b ∷ q));
    viable = subst (Continues (Residual s)) (sym (take-append_seam p (b ∷ q))) ((viable s p g).1 (
      t,
      e,
    ));
    longest = λ m within h. ⊎_elim (λ k. k) (λ k. absurd (beyond m k h)) (cases_le m (length p));
  }
    where
      beyond : (m : ℕ) → length p < m → Continues (Residual s) (take m (p ++ b ∷ q)) → ⊥
      beyond m k h =
          let cut = take_past p q b m k in
          let v = viable_prefix (Residual s) (p
          ++ b ∷ []) (take (m - suc (length p)) q) (subst (Continues (Residual s)) cut h) in
          let r = (next s t p b g e).0 v in
          cc (r.1, n)
