-- Parameters one after another.
use Rattle.std.proofs.Common.{◌≡◌, ◌≢◌, ℕ, Bool, true, false, List, [], ◌∷◌, ◌++◌, refl, sym, ap, ◌∙◌}
use Rattle.std.proofs.Common.{◌⊎◌, inl, inr, ◌==◌, ◌||◌, ◌&&◌, subst, append_assoc, append-nil, arith, eqb-true}
use Rattle.sf_value.specs.Ascii.{semicolon}
use Rattle.sf_value.specs.declared.value.Bare.{Bare}
use Rattle.sf_value.specs.declared.value.Bare.TheVariants.{Boolean}
use Rattle.sf_value.specs.Grammar.Pairs.{Pairs}
use Rattle.sf_value.specs.Grammar.Lines.{Continues}
use Rattle.sf_scan.specs.Parameters.{SpellsPair}
use Rattle.sf_value.specs.Grammar.Parameters.{SpellsParam, SpellsRaw}
use Rattle.sf_value.specs.declared.dialect.Dialect.{Dialect}
use Rattle.sf_scan.proofs.Following.{bare_apart}
use Rattle.sf_scan.specs.Makers.{made_of}
use Rattle.sf_scan.specs.Places.{is_follow}
use Rattle.sf_scan.specs.Stops.{IsFollowed, Reads, Refuses}
use Rattle.sf_value.specs.Runs.{Lacks, FirstIs}
use Rattle.sf_scan.specs.Languages.{Apart}
use Rattle.sf_scan.proofs.Languages.{cut}
use Rattle.sf_scan.proofs.Lists.{heads, tails, cons_nil}
use Rattle.sf_scan.proofs.Pairs.{pair_apart}

module _ (d : Dialect) where
  apart : Apart (SpellsPair d) is_follow
  apart = pair_apart d (bare_apart d)

  -- a parameter after its semicolon, and further ones
  abbrev Opened : List ℕ → (List ℕ × Bare) × Pairs Bare → Type 0
  Opened t v = (a s : List ℕ) × (t ≡ a ++ s) × SpellsPair d a v.0 × SpellsRaw d s v.1

  -- each begins with a semicolon
  opened : (u : List ℕ) (raw : Pairs Bare) → SpellsRaw d (semicolon ∷ u) raw
      → (v : (List ℕ × Bare) × Pairs Bare) × Opened u v
  opened u [] h = absurd (cons_nil semicolon u h)
  opened u (p ∷ raw) h = by h.0 h.1 h.2 h.3.2 h.3 h.4
    where
      by : (a s : List ℕ) → semicolon ∷ u ≡ a ++ s → {t : List ℕ} → a ≡ semicolon ∷ t
          → SpellsParam d a p.0 p.1 → SpellsRaw d s raw
          → (v : (List ℕ × Bare) × Pairs Bare) × Opened u v
      by a s e {t} f k m = (
        (p, raw),
        (
          t,
          s,
          tails semicolon semicolon u _ (e ∙ ap (λ x. x ++ s) f),
          subst (λ x. SpellsParam d x p.0 p.1) f k,
          m,
        ),
      )

  is_semicolon : (b : ℕ) → b ≡ semicolon → (b == semicolon) ≡ true
  is_semicolon b e = grind arith

  follows : (b : ℕ) → b ≡ semicolon → is_follow b ≡ true
  follows b e = rw e refl

  raw_first : (s : List ℕ) (raw : Pairs Bare) → SpellsRaw d s raw → FirstIs (λ b. b ≡ semicolon) s
  raw_first [] raw h = tt
  raw_first (b ∷ s) [] h = absurd (cons_nil b s h)
  raw_first (b ∷ s) (p ∷ raw) h = heads b semicolon s _ (h.2 ∙ ap (λ x. x ++ h.1) h.3.2)

  raw_follow : (s : List ℕ) (raw : Pairs Bare) → SpellsRaw d s raw
      → FirstIs (λ b. is_follow b ≡ true) s
  raw_follow [] raw h = tt
  raw_follow (b ∷ s) raw h = follows b (raw_first (b ∷ s) raw h)

  -- one more at the end
  raw_more : (p t : List ℕ) (old new : Pairs Bare) → SpellsRaw d p old → SpellsRaw d t new
      → SpellsRaw d (p ++ t) (old ++ new)
  raw_more p t [] new h k = subst (λ x. SpellsRaw d (x ++ t) new) (sym h) k
  raw_more p t (q ∷ old) new h k = (
    h.0,
    h.1 ++ t,
    ap (λ x. x ++ t) h.2 ∙ append_assoc h.0 h.1 t,
    h.3,
    raw_more h.1 t old new h.4 k,
  )

  raw_one : (a : List ℕ) (v : List ℕ × Bare) → SpellsPair d a v
      → SpellsRaw d (semicolon ∷ a) (v ∷ [])
  raw_one a v h = (semicolon ∷ a, [], sym (append-nil (semicolon ∷ a)), h, refl)

  -- whole parameters, and then only a semicolon or what continues the last one
  pub record Whole (next : ℕ → Bool) (ends : Bool) (p : List ℕ) (raw : Pairs Bare) : Type 0 where
    pub spelled : SpellsRaw d p raw
    pub opens : (u : List ℕ) (r : Pairs Bare) → SpellsRaw d (p ++ semicolon ∷ u) r
        → (v : (List ℕ × Bare) × Pairs Bare) × Opened u v
    pub followed : IsFollowed (SpellsRaw d) (λ b. next b || (ends && b == semicolon)) p

  one_more : (b : ℕ) → b ≡ semicolon
      → SpellsRaw d (b ∷ 97 ∷ []) ((97 ∷ [], Boolean true) ∷ [])
  one_more b e = (
    b ∷ 97 ∷ [],
    [],
    refl,
    ([], [], ap (λ x. x ∷ 97 ∷ []) e, tt, (refl, tt), inl (refl, refl)),
    refl,
  )

  -- none
  pub whole_none : Whole (λ b. false) true [] []
  whole_none = record {
    spelled = refl;
    opens = λ u r h. opened u r h;
    followed = record {
      viable = ([], [], refl);
      may = λ b h. (
        97 ∷ [],
        (97 ∷ [], Boolean true) ∷ [],
        one_more b (eqb-true b semicolon h),
      );
      only = λ b c. is_semicolon b (raw_first (b ∷ c.0) c.1 c.2);
    };
  }

  -- after q in a parameter comes what continues it, or a semicolon after a whole one
  record Ended (q : List ℕ) (b : ℕ) (u : List ℕ) : Type 0 where
    pub pair : List ℕ × Bare
    pub spelled : SpellsPair d q pair
    pub semi : b ≡ semicolon
    pub raw : Pairs Bare
    pub rest : SpellsRaw d (b ∷ u) raw

  after : (q : List ℕ) (b : ℕ) (u : List ℕ) (v : (List ℕ × Bare) × Pairs Bare)
      → Continues (SpellsPair d) q → Opened (q ++ b ∷ u) v
      → Continues (SpellsPair d) (q ++ b ∷ []) ⊎ Ended q b u
  after q b u v h o =
      let l = cut (SpellsPair d) is_follow apart q (b ∷ u) o.0 o.1 v.0 h o.3
      (raw_follow o.1 v.1 o.4) o.2 in
      by l.more l.part l.rest
    where
      by : (more : List ℕ) → o.0 ≡ q ++ more → b ∷ u ≡ more ++ o.1
          → Continues (SpellsPair d) (q ++ b ∷ []) ⊎ Ended q b u
      by [] e f = inr (record {
        pair = v.0;
        spelled = subst (λ x. SpellsPair d x v.0) (e ∙ append-nil q) o.3;
        semi = subst (FirstIs (λ c. c ≡ semicolon)) (sym f) (raw_first o.1 v.1 o.4);
        raw = v.1;
        rest = subst (λ x. SpellsRaw d x v.1) (sym f) o.4;
      })
      by (c ∷ more) e f =
          let same : b ≡ c = heads b c _ _ f in
          inl (
            more,
            v.0,
            subst (λ x. SpellsPair d x v.0)
                (e ∙ (ap (λ x. q ++ x ∷ more) (sym same) ∙ sym (append_assoc q (b ∷ []) more))) o.3,
          )

  -- one more parameter
  moved : (p q u : List ℕ) → (p ++ semicolon ∷ q) ++ u ≡ p ++ semicolon ∷ (q ++ u)
  moved p q u = append_assoc p (semicolon ∷ q) u

  more_may : (next : ℕ → Bool) (p q : List ℕ) (raw : Pairs Bare) → SpellsRaw d p raw
      → IsFollowed (SpellsPair d) next q → (b : ℕ) → next b ≡ true
      → Continues (SpellsRaw d) ((p ++ semicolon ∷ q) ++ b ∷ [])
  more_may next p q raw h f b e =
      let c = f.may b e in (
        c.0,
        raw ++ c.1 ∷ [],
        subst (λ t. SpellsRaw d t (raw ++ c.1 ∷ []))
            (sym (ap (λ t. t ++ c.0) (moved p q (b ∷ []))
            ∙ append_assoc p (semicolon ∷ (q ++ b ∷ [])) c.0))
            (raw_more p _ raw (c.1 ∷ []) h (raw_one ((q ++ b ∷ []) ++ c.0) c.1 c.2)),
      )

  more_viable : (p q : List ℕ) (raw : Pairs Bare) → SpellsRaw d p raw
      → Continues (SpellsPair d) q → Continues (SpellsRaw d) (p ++ semicolon ∷ q)
  more_viable p q raw h c = (
    c.0,
    raw ++ c.1 ∷ [],
    subst (λ t. SpellsRaw d t (raw ++ c.1 ∷ [])) (sym (moved p q c.0))
        (raw_more p _ raw (c.1 ∷ []) h (raw_one (q ++ c.0) c.1 c.2)),
  )

  -- what the texts after it tell
  more_opened : (next : ℕ → Bool) (ends : Bool) (p q : List ℕ) (raw : Pairs Bare)
      → Whole next ends p raw → (u : List ℕ) (r : Pairs Bare)
      → SpellsRaw d ((p ++ semicolon ∷ q) ++ u) r
      → (v : (List ℕ × Bare) × Pairs Bare) × Opened (q ++ u) v
  more_opened next ends p q raw w u r h =
      w.opens (q ++ u) r (subst (λ t. SpellsRaw d t r) (moved p q u) h)

  more_only : (next : ℕ → Bool) (ends : Bool) (p q : List ℕ) (raw : Pairs Bare)
      → Whole next ends p raw → (test : ℕ → Bool) → IsFollowed (SpellsPair d) test q → (b : ℕ)
      → Continues (SpellsRaw d) ((p ++ semicolon ∷ q) ++ b ∷ [])
      → (test b ≡ true) ⊎ ((x : List ℕ × Bare) × SpellsPair d q x × (b ≡ semicolon))
  more_only next ends p q raw w test f b c =
      let o = more_opened next ends p q raw w (b ∷ c.0) c.1
      (subst (λ t. SpellsRaw d t c.1) (append_assoc (p ++ semicolon ∷ q) (b ∷ []) c.0) c.2) in
      elim (after q b c.0 o.0 f.viable o.1) [
        | inl k ↦ inl (f.only b k)
        | inr z ↦ inr (z.pair, z.spelled, z.semi)
      ]

  or_left : (x y : Bool) → x ≡ true → (x || y) ≡ true
  or_left x y e = rw e refl

  or_right : (x : Bool) (b : ℕ) → b ≡ semicolon → (x || (true && b == semicolon)) ≡ true
  or_right x b e = by x (is_semicolon b e)
    where
      by : (x : Bool) → (b == semicolon) ≡ true → (x || (b == semicolon)) ≡ true
      by true h = refl
      by false h = h

  or_cases : (x : Bool) (b : ℕ) → (x || (true && b == semicolon)) ≡ true
      → (x ≡ true) ⊎ (b ≡ semicolon)
  or_cases true b h = inl refl
  or_cases false b h = inr (eqb-true b semicolon h)

  pub whole_more : (next : ℕ → Bool) (ends : Bool) (p : List ℕ) (raw : Pairs Bare)
      → Whole next ends p raw → (test : ℕ → Bool) (q : List ℕ) (x : List ℕ × Bare)
      → SpellsPair d q x → IsFollowed (SpellsPair d) test q
      → Whole test true (p ++ semicolon ∷ q) (raw ++ x ∷ [])
  whole_more next ends p raw w test q x h f = record {
    spelled = spelled;
    opens = λ u r k. by u
        (more_opened next ends p q raw w (semicolon ∷ u) r k);
    followed = record {
      viable = more_viable p q raw w.spelled f.viable;
      may = λ b k. elim (or_cases (test b) b k) [
        | inl e ↦ more_may test p q raw w.spelled f b e
        | inr e ↦ (
          97 ∷ [],
          (raw ++ x ∷ []) ++ (97 ∷ [], Boolean true) ∷ [],
          subst (λ t. SpellsRaw d t ((raw ++ x ∷ []) ++ (97 ∷ [], Boolean true) ∷ []))
              (sym (append_assoc (p ++ semicolon ∷ q) (b ∷ []) (97 ∷ [])))
              (raw_more (p ++ semicolon ∷ q) (b ∷ 97 ∷ []) (raw ++ x ∷ []) _ spelled
              (one_more b e)),
        )
      ];
      only = λ b c. elim (more_only next ends p q raw w test f b c) [
        | inl e ↦ or_left (test b) _ e
        | inr e ↦ or_right (test b) b e.2
      ];
    };
  }
    where
      spelled : SpellsRaw d (p ++ semicolon ∷ q) (raw ++ x ∷ [])
      spelled = raw_more p (semicolon ∷ q) raw (x ∷ []) w.spelled (raw_one q x h)

      by : (u : List ℕ) → (v : (List ℕ × Bare) × Pairs Bare) × Opened (q ++ semicolon ∷ u) v
          → (v : (List ℕ × Bare) × Pairs Bare) × Opened u v
      by u o = elim (after q semicolon u o.0 f.viable o.1) [
        | inl k ↦ absurd (apart q x semicolon h refl k)
        | inr z ↦ opened u z.raw z.rest
      ]

  -- a parameter that goes wrong
  same_or : (x : Bool) → (x || false) ≡ true → x ≡ true
  same_or true e = refl
  same_or false e = e

  pub raw_refused : (next : ℕ → Bool) (ends : Bool) (p : List ℕ) (raw : Pairs Bare)
      → Whole next ends p raw → (test : ℕ → Bool) (text more left : List ℕ)
      → text ≡ p ++ semicolon ∷ more → Refuses (SpellsPair d) test more left
      → (all : ℕ → Bool) → ((b : ℕ) → all b ≡ (test b || false)) → Refuses (SpellsRaw d) all text left
  raw_refused next ends p raw w test text more left e r all same =
      let q = r.stops.prefix in
      let f = r.stops.followed in record {
        stops = record {
          prefix = p ++ semicolon ∷ q;
          split = e ∙ (ap (λ t. p ++ semicolon ∷ t) r.stops.split ∙ sym (moved p q left));
          followed = record {
            viable = more_viable p q raw w.spelled f.viable;
            may = λ b k. more_may test p q raw w.spelled f b (same_or (test b) (sym (same b) ∙ k));
            only = λ b c. elim (more_only next ends p q raw w test f b c) [
              | inl k ↦ same b ∙ or_left (test b) false k
              | inr k ↦ absurd (r.unspelled k.0 k.1)
            ];
          };
          blocked = blocked left r.stops.blocked;
        };
        unspelled = λ v h.
            let o = more_opened next ends p q raw w [] v
            (subst (λ t. SpellsRaw d t v) (sym (append-nil (p ++ semicolon ∷ q))) h) in
            by q r.unspelled f.viable o.0 (o.1);
      }
    where
      blocked : (t : List ℕ) → Lacks test t → Lacks all t
      blocked [] h = tt
      blocked (b ∷ t) h = same b ∙ rw h refl

      by : (q : List ℕ) → ((v : List ℕ × Bare) → SpellsPair d q v → ⊥) → Continues (SpellsPair d) q
          → (v : (List ℕ × Bare) × Pairs Bare) → Opened (q ++ []) v → ⊥
      by q n h v o =
          let l = cut (SpellsPair d) is_follow apart q [] o.0 o.1 v.0 h o.3
          (raw_follow o.1 v.1 o.4) o.2 in
          on l.more l.part l.rest
        where
          on : (more : List ℕ) → o.0 ≡ q ++ more → [] ≡ more ++ o.1 → ⊥
          on [] e f = n v.0 (subst (λ x. SpellsPair d x v.0) (e ∙ append-nil q) o.3)
          on (c ∷ more) e f = cons_nil c _ (sym f)

  -- the end
  pub raw_read : (next : ℕ → Bool) (ends : Bool) (p : List ℕ) (raw : Pairs Bare)
      → Whole next ends p raw → (text left : List ℕ) → text ≡ p ++ left → Lacks next left
      → FirstIs (λ b. b ≢ semicolon) left
      → Reads (SpellsRaw d) (λ b. next b || (ends && b == semicolon)) text raw left
  raw_read next ends p raw w text left e n s = record {
    stops = record {
      prefix = p;
      split = e;
      followed = w.followed;
      blocked = blocked left n s;
    };
    spelled = w.spelled;
  }
    where
      neither : (x : Bool) (b : ℕ) → b ≢ semicolon → (x && b == semicolon) ≡ false
      neither x b h = grind arith

      blocked : (t : List ℕ) → Lacks next t → FirstIs (λ b. b ≢ semicolon) t
          → Lacks (λ b. next b || (ends && b == semicolon)) t
      blocked [] n s = tt
      blocked (b ∷ t) n s = rw n (neither ends b s)

-- what a maker has after one more
pub made_more : {M : Type 0} (with : M → List ℕ → Bare → M) (m : M) (raw : Pairs Bare)
    (x : List ℕ × Bare)
    → made_of with m (raw ++ x ∷ []) ≡ with (made_of with m raw) x.0 x.1
made_more with m [] x = refl
made_more with m (p ∷ raw) x = made_more with (with m p.0 p.1) raw x
