-- Members with commas between them: what follows in a List or a Dictionary, whatever its members are.
use Rattle.std.proofs.Common.{◌≡◌, ◌≢◌, ℕ, Bool, true, false, List, [], ◌∷◌, ◌++◌, refl, sym, ap, ◌∙◌}
use Rattle.std.proofs.Common.{◌⊎◌, inl, inr, ◌==◌, ◌||◌, ◌<◌, suc, length, length-append, subst, append_assoc, append-nil, arith, eqb-true}
use Rattle.sf_value.specs.Ascii.{comma}
use Rattle.sf_value.specs.Grammar.Classes.{is_sp, is_ows}
use Rattle.sf_value.specs.Grammar.Lines.{Continues}
use Rattle.sf_value.specs.Grammar.Series.{SpellsCommas, SpellsWhole}
use Rattle.sf_value.specs.Grammar.Words.{Every}
use Rattle.sf_value.proofs.Runs.{every_append}
use Rattle.sf_scan.specs.Languages.{Then}
use Rattle.sf_scan.specs.Lifts.{Lifts}
use Rattle.sf_scan.specs.Places.{is_after}
use Rattle.sf_scan.specs.Series.{IsElement, made_each}
use Rattle.sf_scan.specs.Stops.{Past, IsFollowed, Reads, Refuses}
use Rattle.sf_value.specs.Runs.{Lacks, FirstIs}
use Rattle.sf_scan.proofs.Enclosed.{begun_first}
use Rattle.sf_scan.proofs.Languages.{SameTexts}
use Rattle.sf_scan.proofs.Lifts.{lifts_past, lifts_then, lifts_first}
use Rattle.sf_scan.proofs.Lists.{heads, tails, cons_nil}
use Rattle.sf_scan.proofs.Sequences.{or_left, or_right, or_cases, lacks_both, then_reads, then_ends}
use Rattle.sf_scan.proofs.Sequences.{then_refuses, then_refuses_after, then_continues}
use Rattle.sf_scan.proofs.Sequences.{continues_before_first}

ows_after : (b : ℕ) → is_ows b ≡ true → is_after b ≡ true
ows_after b h = grind arith

sp_after : (b : ℕ) → is_sp b ≡ true → is_after b ≡ true
sp_after b h = grind arith

comma_after : (b : ℕ) → (b == comma) ≡ true → is_after b ≡ true
comma_after b h = grind arith

comma_test : (b : ℕ) → b ≡ comma → (b == comma) ≡ true
comma_test b e = grind arith

comma_no_space : (c : ℕ) → is_ows c ≡ true → c ≡ comma → ⊥
comma_no_space c h e = grind arith

two_ways : (x : Bool) → x ≡ true → x ≡ false → ⊥
two_ways x h k = cc

module _ {X : Type 0} (P : List ℕ → X → Type 0) where
  -- after a member: further ones, each after a comma, and OWS
  abbrev After : List ℕ → List X → Type 0
  After t xs =
      (body tail : List ℕ) × (t ≡ body ++ tail) × SpellsCommas P body xs × Every is_ows tail

  -- after a comma: OWS, a member, and what comes after it
  abbrev Due : List ℕ → X × List X → Type 0
  Due t v =
      (gap prefix suffix : List ℕ)
      × (t ≡ gap ++ (prefix ++ suffix))
      × Every is_ows gap
      × P prefix v.0
      × After suffix v.1

  abbrev Whole : List ℕ → List X → Type 0
  Whole = SpellsWhole P

  abbrev Opens : List ℕ → X × List X → Type 0
  Opens = Then P After

  -- the first byte after a member
  abbrev AfterView : ℕ → List ℕ → List X → Type 0
  AfterView c t xs =
      ((is_ows c ≡ true) × After t xs) ⊎ ((c ≡ comma) × ((v : X × List X) × Due t v))

  -- a member was read, up to what is left: whatever comes after it is read of the whole
  pub record Has {M : Type 0} (make : M → X → M) (next : ℕ → Bool) (text left : List ℕ) (old now : M)
      : Type 0 where
    pub before : List ℕ
    pub member : X
    pub reads : Reads P next before member left
    pub into : X × List X → List X
    pub lifts : Lifts Opens before Whole text into
    pub made : (xs : List X) → made_each make now xs ≡ made_each make old (into (member, xs))

  module _ (begin : ℕ → Bool) (parts : IsElement P begin) where
    after_view : (c : ℕ) (t : List ℕ) (xs : List X) → After (c ∷ t) xs → AfterView c t xs
    after_view c t [] h = by h.1 (h.2 ∙ ap (λ z. z ++ h.1) h.3) h.4
      where
        by : (tail : List ℕ) → c ∷ t ≡ tail → Every is_ows tail → AfterView c t []
        by [] e w = absurd (cons_nil c t e)
        by (d ∷ tail) e w =
            inl (ap is_ows (heads c d t tail e) ∙ w.0, ([], tail, tails c d t tail e, refl, w.1))
    after_view c t (x ∷ xs) h = by m.0 m.4 m.5
      where
        m : SpellsCommas P h.0 (x ∷ xs)
        m = h.3

        by : (before : List ℕ) → h.0 ≡ before ++ comma ∷ (m.1 ++ (m.2 ++ m.3)) → Every is_ows before
            → AfterView c t (x ∷ xs)
        by [] e w =
            let f : c ∷ t ≡ comma ∷ ((m.1 ++ (m.2 ++ m.3)) ++ h.1) = h.2 ∙ ap (λ z. z ++ h.1) e in
            let g : t ≡ m.1 ++ (m.2 ++ (m.3 ++ h.1)) =
            tails c comma t _ f ∙ simp append_assoc in
            inr (
              heads c comma t _ f,
              ((x, xs), (m.1, m.2, m.3 ++ h.1, g, m.6, m.7, (m.3, h.1, refl, m.8, h.4))),
            )
        by (d ∷ before) e w =
            let f : c ∷ t ≡ d ∷ ((before ++ comma ∷ (m.1 ++ (m.2 ++ m.3))) ++ h.1) =
            h.2 ∙ ap (λ z. z ++ h.1) e in
            inl (
              ap is_ows (heads c d t _ f) ∙ w.0,
              (
                before ++ comma ∷ (m.1 ++ (m.2 ++ m.3)),
                h.1,
                tails c d t _ f,
                (before, m.1, m.2, m.3, refl, w.1, m.6, m.7, m.8),
                h.4,
              ),
            )

    after_space : (c : ℕ) (t : List ℕ) (xs : List X) → is_ows c ≡ true → After t xs
        → After (c ∷ t) xs
    after_space c t [] k h = (
      [],
      c ∷ h.1,
      ap (λ z. c ∷ z) (h.2 ∙ ap (λ z. z ++ h.1) h.3),
      refl,
      (k, h.4),
    )
    after_space c t (x ∷ xs) k h =
        let m = h.3 in (
          c ∷ h.0,
          h.1,
          ap (λ z. c ∷ z) h.2,
          (c ∷ m.0, m.1, m.2, m.3, ap (λ z. c ∷ z) m.4, (k, m.5), m.6, m.7, m.8),
          h.4,
        )

    after_spaces : (gap t : List ℕ) (xs : List X) → Every is_ows gap → After t xs
        → After (gap ++ t) xs
    after_spaces [] t xs w h = h
    after_spaces (c ∷ gap) t xs w h =
        after_space c (gap ++ t) xs w.0 (after_spaces gap t xs w.1 h)

    after_dropped : (gap t : List ℕ) (xs : List X) → Every is_ows gap → After (gap ++ t) xs
        → After t xs
    after_dropped [] t xs w h = h
    after_dropped (c ∷ gap) t xs w h =
        after_dropped gap t xs w.1 (elim (after_view c (gap ++ t) xs h) [
          | inl k ↦ k.1
          | inr k ↦ absurd (comma_no_space c w.0 k.0)
        ])

    after_gap : (gap : List ℕ) → Every is_ows gap → SameTexts After (Past gap After) (λ v. v)
    after_gap gap w = record {
      up = λ t xs h. after_spaces gap t xs w h;
      down = λ t xs h. (xs, after_dropped gap t xs w h);
    }

    comma_texts : SameTexts Due (Past (comma ∷ []) After) (λ v. v.0 ∷ v.1)
    comma_texts = record {
      up = λ t v h.
          let a = h.6 in (
            comma ∷ (h.0 ++ (h.1 ++ a.0)),
            a.1,
            ap (λ z. comma ∷ z)
                (h.3 ∙ (ap (λ z. h.0 ++ (h.1 ++ z)) a.2 ∙ moved h.0 h.1 a.0 a.1)),
            ([], h.0, h.1, a.0, refl, tt, h.4, h.5, a.3),
            a.4,
          );
      down = λ t xs h. elim (after_view comma t xs h) [
        | inl k ↦ absurd (comma_no_space comma k.0 refl)
        | inr k ↦ k.1
      ];
    }
      where
        moved : (g p b r : List ℕ) → g ++ (p ++ (b ++ r)) ≡ (g ++ (p ++ b)) ++ r
        moved g p b r = simp append_assoc

    after_head : (c : ℕ) (t : List ℕ) (xs : List X) → After (c ∷ t) xs
        → (is_ows c || c == comma) ≡ true
    after_head c t xs h = elim (after_view c t xs h) [
      | inl k ↦ or_left (is_ows c) (c == comma) k.0
      | inr k ↦ or_right (is_ows c) (c == comma) (comma_test c k.0)
    ]

    after_test : (c : ℕ) → (is_ows c || c == comma) ≡ true → is_after c ≡ true
    after_test c h = elim (or_cases (is_ows c) (c == comma) h) [
      | inl k ↦ ows_after c k
      | inr k ↦ comma_after c k
    ]

    after_first : (t : List ℕ) (xs : List X) → After t xs → FirstIs (λ b. is_after b ≡ true) t
    after_first [] xs h = tt
    after_first (c ∷ t) xs h = after_test c (after_head c t xs h)

    after_none : After [] []
    after_none = ([], [], refl, refl, tt)

    after_followed : IsFollowed After (λ b. is_ows b || b == comma) []
    after_followed = record {
      viable = ([], [], after_none);
      may = λ b h. elim (or_cases (is_ows b) (b == comma) h) [
        | inl k ↦ ([], [], ([], b ∷ [], refl, refl, (k, tt)))
        | inr k ↦ (
          parts.start.viable.0,
          parts.start.viable.1 ∷ [],
          subst (λ z. After (z ∷ parts.start.viable.0) (parts.start.viable.1 ∷ [])) (sym (eqb-true b comma k))
              (comma_texts.up parts.start.viable.0 (parts.start.viable.1, [])
              ([], parts.start.viable.0, [], sym (append-nil parts.start.viable.0), tt, parts.start.viable.2, after_none)),
        )
      ];
      only = λ b c. after_head b c.0 c.1 c.2;
    }

    -- the first byte of a member
    first_member : (b : ℕ) (u : List ℕ) (v : X × List X) → Opens (b ∷ u) v → Continues P (b ∷ [])
    first_member b u v h = by h.0 h.2 h.3
      where
        by : (p : List ℕ) → b ∷ u ≡ p ++ h.1 → P p v.0 → Continues P (b ∷ [])
        by [] e i = absurd (parts.begun [] v.0 i)
        by (d ∷ p) e i =
            let same : d ≡ b = sym (heads b d u (p ++ h.1) e) in
            (p, v.0, subst (λ z. P (z ∷ p) v.0) same i)

    -- after a comma
    due_view : (c : ℕ) (t : List ℕ) (v : X × List X) → Due (c ∷ t) v
        → ((is_ows c ≡ true) × Due t v) ⊎ ((is_after c ≡ false) × Opens (c ∷ t) v)
    due_view c t v h = by h.0 h.3 h.4
      where
        by : (gap : List ℕ) → c ∷ t ≡ gap ++ (h.1 ++ h.2) → Every is_ows gap
            → ((is_ows c ≡ true) × Due t v) ⊎ ((is_after c ≡ false) × Opens (c ∷ t) v)
        by [] e w = inr (begun_first h.1 h.2 c t (parts.begun h.1 v.0 h.5) e, (h.1, h.2, e, h.5, h.6))
        by (d ∷ gap) e w =
            inl (
              ap is_ows (heads c d t _ e) ∙ w.0,
              (gap, h.1, h.2, tails c d t _ e, w.1, h.5, h.6),
            )

    due_dropped : (gap t : List ℕ) (v : X × List X) → Every is_ows gap → Due (gap ++ t) v → Due t v
    due_dropped [] t v w h = h
    due_dropped (c ∷ gap) t v w h =
        due_dropped gap t v w.1 (elim (due_view c (gap ++ t) v h) [
          | inl k ↦ k.1
          | inr k ↦ absurd (two_ways (is_after c) (ows_after c w.0) k.0)
        ])

    due_gap : (gap : List ℕ) → Every is_ows gap → SameTexts Due (Past gap Due) (λ v. v)
    due_gap gap w = record {
      up = λ t v h. (
        gap ++ h.0,
        h.1,
        h.2,
        ap (λ z. gap ++ z) h.3 ∙ sym (append_assoc gap h.0 (h.1 ++ h.2)),
        every_append is_ows gap h.0 w h.4,
        h.5,
        h.6,
      );
      down = λ t v h. (v, due_dropped gap t v w h);
    }

    due_open : (c : ℕ) → is_after c ≡ false
        → SameTexts (Past (c ∷ []) Opens) (Past (c ∷ []) Due) (λ v. v)
    due_open c k = record {
      up = λ t v h. ([], h.0, h.1, h.2, tt, h.3, h.4);
      down = λ t v h. elim (due_view c t v h) [
        | inl s ↦ absurd (two_ways (is_after c) (ows_after c s.0) k)
        | inr s ↦ (v, s.1)
      ];
    }

    no_due : (v : X × List X) → Due [] v → ⊥
    no_due v h = by h.0 h.1 h.3 h.5
      where
        by : (gap p : List ℕ) → [] ≡ gap ++ (p ++ h.2) → P p v.0 → ⊥
        by (c ∷ gap) p e i = cons_nil c _ (sym e)
        by [] (c ∷ p) e i = cons_nil c _ (sym e)
        by [] [] e i = parts.begun [] v.0 i

    due_followed : IsFollowed Due (λ b. begin b || is_ows b) []
    due_followed = record {
      viable = (parts.start.viable.0, (parts.start.viable.1, []), ([], parts.start.viable.0, [], sym (append-nil parts.start.viable.0), tt, parts.start.viable.2, after_none));
      may = λ b h. elim (or_cases (begin b) (is_ows b) h) [
        | inl k ↦
            let c = parts.start.may b k in (
              c.0,
              (c.1, []),
              ([], b ∷ c.0, [], sym (append-nil (b ∷ c.0)), tt, c.2, after_none),
            )
        | inr k ↦ (
          parts.start.viable.0,
          (parts.start.viable.1, []),
          (
            b ∷ [],
            parts.start.viable.0,
            [],
            ap (λ z. b ∷ z) (sym (append-nil parts.start.viable.0)),
            (k, tt),
            parts.start.viable.2,
            after_none,
          ),
        )
      ];
      only = λ b c. elim (due_view b c.0 c.1 c.2) [
        | inl k ↦ or_right (begin b) (is_ows b) k.0
        | inr k ↦ or_left (begin b) (is_ows b) (parts.start.only b (first_member b c.0 c.1 k.1))
      ];
    }

    -- before the first member
    whole_view : (c : ℕ) (t : List ℕ) (xs : List X) → Whole (c ∷ t) xs
        → ((is_sp c ≡ true) × Whole t xs)
        ⊎ ((is_after c ≡ false) × ((v : X × List X) × Opens (c ∷ t) v))
    whole_view c t [] h = inl (h.0, h.1)
    whole_view c t (x ∷ xs) h = by h.0 h.3 h.4
      where
        s : (prefix suffix : List ℕ) × (h.1 ≡ prefix ++ suffix) × P prefix x × SpellsCommas P suffix xs
        s = h.5

        by : (gap : List ℕ) → c ∷ t ≡ gap ++ (h.1 ++ h.2) → Every is_sp gap
            → ((is_sp c ≡ true) × Whole t (x ∷ xs))
            ⊎ ((is_after c ≡ false) × ((v : X × List X) × Opens (c ∷ t) v))
        by [] e w =
            let f : c ∷ t ≡ s.0 ++ (s.1 ++ h.2) =
            e ∙ (ap (λ z. z ++ h.2) s.2 ∙ append_assoc s.0 s.1 h.2) in
            inr (
              begun_first s.0 (s.1 ++ h.2) c t (parts.begun s.0 x s.3) f,
              ((x, xs), (s.0, s.1 ++ h.2, f, s.3, (s.1, h.2, refl, s.4, h.6))),
            )
        by (d ∷ gap) e w =
            inl (
              ap is_sp (heads c d t _ e) ∙ w.0,
              (gap, h.1, h.2, tails c d t _ e, w.1, s, h.6),
            )

    whole_space : (c : ℕ) (t : List ℕ) (xs : List X) → is_sp c ≡ true → Whole t xs
        → Whole (c ∷ t) xs
    whole_space c t [] k h = (k, h)
    whole_space c t (x ∷ xs) k h =
        (c ∷ h.0, h.1, h.2, ap (λ z. c ∷ z) h.3, (k, h.4), h.5, h.6)

    whole_spaces : (gap t : List ℕ) (xs : List X) → Every is_sp gap → Whole t xs
        → Whole (gap ++ t) xs
    whole_spaces [] t xs w h = h
    whole_spaces (c ∷ gap) t xs w h =
        whole_space c (gap ++ t) xs w.0 (whole_spaces gap t xs w.1 h)

    whole_dropped : (gap t : List ℕ) (xs : List X) → Every is_sp gap → Whole (gap ++ t) xs
        → Whole t xs
    whole_dropped [] t xs w h = h
    whole_dropped (c ∷ gap) t xs w h =
        whole_dropped gap t xs w.1 (elim (whole_view c (gap ++ t) xs h) [
          | inl k ↦ k.1
          | inr k ↦ absurd (two_ways (is_after c) (sp_after c w.0) k.0)
        ])

    whole_gap : (gap : List ℕ) → Every is_sp gap → SameTexts Whole (Past gap Whole) (λ v. v)
    whole_gap gap w = record {
      up = λ t xs h. whole_spaces gap t xs w h;
      down = λ t xs h. (xs, whole_dropped gap t xs w h);
    }

    whole_open : (c : ℕ) → is_after c ≡ false
        → SameTexts (Past (c ∷ []) Opens) (Past (c ∷ []) Whole) (λ v. v.0 ∷ v.1)
    whole_open c k = record {
      up = λ t v h.
          let a = h.4 in (
            [],
            h.0 ++ a.0,
            a.1,
            h.2 ∙ (ap (λ z. h.0 ++ z) a.2 ∙ sym (append_assoc h.0 a.0 a.1)),
            tt,
            (h.0, a.0, refl, h.3, a.3),
            a.4,
          );
      down = λ t xs h. elim (whole_view c t xs h) [
        | inl s ↦ absurd (two_ways (is_after c) (sp_after c s.0) k)
        | inr s ↦ s.1
      ];
    }

    whole_followed : IsFollowed Whole (λ b. begin b || is_sp b) []
    whole_followed = record {
      viable = ([], [], tt);
      may = λ b h. elim (or_cases (begin b) (is_sp b) h) [
        | inl k ↦
            let c = parts.start.may b k in (
              c.0,
              c.1 ∷ [],
              (
                [],
                b ∷ c.0,
                [],
                sym (append-nil (b ∷ c.0)),
                tt,
                (b ∷ c.0, [], sym (append-nil (b ∷ c.0)), c.2, refl),
                tt,
              ),
            )
        | inr k ↦ ([], [], (k, tt))
      ];
      only = λ b c. elim (whole_view b c.0 c.1 c.2) [
        | inl k ↦ or_right (begin b) (is_sp b) k.0
        | inr k ↦ or_left (begin b) (is_sp b) (parts.start.only b (first_member b c.0 k.1.0 k.1.1))
      ];
    }

    -- a text that begins with the first byte of a member
    opens_lifts : {Y : Type 0} (S : List ℕ → Y → Type 0) (into : X × List X → Y)
        → ((c : ℕ) → is_after c ≡ false → SameTexts (Past (c ∷ []) Opens) (Past (c ∷ []) S) into)
        → (p at left : List ℕ) → Continues P p → at ≡ p ++ left → p ≢ [] → Lifts Opens at S at into
    opens_lifts S into same [] at left k e n = absurd (n refl)
    opens_lifts S into same (c ∷ p) at left k e n =
        lifts_first Opens S into c (p ++ left) at
        (then_continues P After is_after parts.apart after_first after_followed.viable (c ∷ [])
        (continues_before_first P c p k)) (same c (parts.begun (c ∷ (p ++ k.0)) k.1 k.2)) e

    not_none : (p : List ℕ) (x : X) → P p x → p ≢ []
    not_none p x h e = parts.begun [] x (subst (λ t. P t x) e h)

    module _ {M : Type 0} (make : M → X → M) (text : List ℕ) (old : M) where
      -- the first one
      module _ (gap start : List ℕ) (split : text ≡ gap ++ start) (spaces : Every is_sp gap) where
        start_lifts : Lifts Whole start Whole text (λ v. v)
        start_lifts = lifts_past Whole Whole (λ v. v) gap start text (whole_gap gap spaces) split

        first_lifts : (p left : List ℕ) → Continues P p → start ≡ p ++ left → p ≢ []
            → Lifts Opens start Whole text (λ v. v.0 ∷ v.1)
        first_lifts p left k e n =
            lifts_then Opens Whole Whole (λ v. v.0 ∷ v.1) (λ v. v) start start text
            (opens_lifts Whole (λ v. v.0 ∷ v.1) whole_open p start left k e n) start_lifts

        pub first_has : (next : ℕ → Bool) (x : X) (left : List ℕ) (new : M)
            → Reads P next start x left → new ≡ make old x → Has make next text left old new
        first_has next x left new r m = record {
          before = start;
          member = x;
          reads = r;
          into = λ v. v.0 ∷ v.1;
          lifts = first_lifts r.stops.prefix left r.stops.followed.viable r.stops.split
              (not_none r.stops.prefix x r.spelled);
          made = λ xs. ap (λ z. made_each make z xs) m;
        }

        pub first_refused : (next : ℕ → Bool) (left : List ℕ) → (r : Refuses P next start left)
            → r.stops.prefix ≢ [] → Refuses Whole next text left
        first_refused next left r n =
            (first_lifts r.stops.prefix left r.stops.followed.viable r.stops.split n).refuses next left
            (then_refuses P After is_after parts.apart after_first next start left after_followed.viable r)

        pub first_none : Lacks begin start → Lacks is_sp start
            → Reads Whole (λ b. begin b || is_sp b) text [] start
        first_none n k =
            start_lifts.reads _ [] start (record {
              stops = record {
                prefix = [];
                split = refl;
                followed = whole_followed;
                blocked = lacks_both begin is_sp start n k;
              };
              spelled = tt;
            })

      -- what comes after a member
      module _ (next : ℕ → Bool) (left : List ℕ) (now : M) (has : Has make next text left old now)
        where
          after_lifts : (c : ℕ) (l : List ℕ) → left ≡ c ∷ l → (is_ows c || c == comma) ≡ true
              → Lifts After left Whole text (λ xs. has.into (has.member, xs))
          after_lifts c l e k =
              lifts_then After Opens Whole (λ xs. (has.member, xs)) has.into left has.before text
              (record {
                reads = λ after xs end r.
                    then_reads P After is_after parts.apart after_first next after has.before has.member left c
                    l xs end has.reads e (after_test c k) (after_followed.may c k) r;
                refuses = λ after end r.
                    then_refuses_after P After is_after parts.apart after_first next after has.before has.member
                    left c l end has.reads e (after_test c k) (after_followed.may c k) r;
              })
              has.lifts

          pub ends_there : Lacks (λ b. is_ows b || b == comma) left
              → Reads Whole (λ b. next b || (is_ows b || b == comma)) text (has.into (has.member, [])) left
          ends_there n =
              has.lifts.reads _ _ left
              (then_ends P After is_after parts.apart after_first next (λ b. is_ows b || b == comma) has.before
              has.member [] left has.reads after_followed n after_none)

          module _ (run at : List ℕ) (behind : left ≡ run ++ at) (spaces : Every is_ows run) where
            run_lifts : run ≢ [] → Lifts After at Whole text (λ xs. has.into (has.member, xs))
            run_lifts n = by run behind spaces n
              where
                by : (run : List ℕ) → left ≡ run ++ at → Every is_ows run → run ≢ []
                    → Lifts After at Whole text (λ xs. has.into (has.member, xs))
                by [] e w n = absurd (n refl)
                by (c ∷ run) e w n =
                    lifts_then After After Whole (λ v. v) (λ xs. has.into (has.member, xs)) at left text
                    (lifts_past After After (λ v. v) (c ∷ run) at left (after_gap (c ∷ run) w) e)
                    (after_lifts c (run ++ at) e (or_left (is_ows c) (c == comma) w.0))

            pub ends_behind : run ≢ [] → Lacks (λ b. is_ows b || b == comma) at
                → Reads Whole (λ b. is_ows b || b == comma) text (has.into (has.member, [])) at
            ends_behind n k =
                (run_lifts n).reads _ [] at (record {
                  stops = record { prefix = []; split = refl; followed = after_followed; blocked = k };
                  spelled = after_none;
                })

            -- a comma
            module _ (more gap due : List ℕ) (found : at ≡ comma ∷ more) (split : more ≡ gap ++ due)
                (blanks : Every is_ows gap) where
              comma_lifts : Lifts After at Whole text (λ xs. has.into (has.member, xs))
              comma_lifts = by run behind spaces
                where
                  by : (run : List ℕ) → left ≡ run ++ at → Every is_ows run
                      → Lifts After at Whole text (λ xs. has.into (has.member, xs))
                  by [] e w =
                      lifts_then After After Whole (λ v. v) (λ xs. has.into (has.member, xs)) at left text
                      (lifts_past After After (λ v. v) [] at left (after_gap [] tt) e)
                      (after_lifts comma more (e ∙ found) refl)
                  by (c ∷ run) e w =
                      lifts_then After After Whole (λ v. v) (λ xs. has.into (has.member, xs)) at left text
                      (lifts_past After After (λ v. v) (c ∷ run) at left (after_gap (c ∷ run) w) e)
                      (after_lifts c (run ++ at) e (or_left (is_ows c) (c == comma) w.0))

              due_lifts : Lifts Due due Whole text (λ v. has.into (has.member, v.0 ∷ v.1))
              due_lifts =
                  lifts_then Due After Whole (λ v. v.0 ∷ v.1) (λ xs. has.into (has.member, xs)) due at
                  text
                  (lifts_then Due Due After (λ v. v) (λ v. v.0 ∷ v.1) due more at
                  (lifts_past Due Due (λ v. v) gap due more (due_gap gap blanks) split)
                  (lifts_past Due After (λ v. v.0 ∷ v.1) (comma ∷ []) more at comma_texts found))
                  comma_lifts

              next_lifts : (p end : List ℕ) → Continues P p → due ≡ p ++ end → p ≢ []
                  → Lifts Opens due Whole text (λ v. has.into (has.member, v.0 ∷ v.1))
              next_lifts p end k e n =
                  lifts_then Opens Due Whole (λ v. v) (λ v. has.into (has.member, v.0 ∷ v.1)) due due text
                  (opens_lifts Due (λ v. v) due_open p due end k e n) due_lifts

              pub more_has : (after : ℕ → Bool) (x : X) (end : List ℕ) (new : M)
                  → Reads P after due x end → new ≡ make now x → Has make after text end old new
              more_has after x end new r m = record {
                before = due;
                member = x;
                reads = r;
                into = λ v. has.into (has.member, v.0 ∷ v.1);
                lifts = next_lifts r.stops.prefix end r.stops.followed.viable r.stops.split
                    (not_none r.stops.prefix x r.spelled);
                made = λ xs. ap (λ z. made_each make z xs) m ∙ has.made (x ∷ xs);
              }

              pub due_broken : (after : ℕ → Bool) (end : List ℕ) → (r : Refuses P after due end)
                  → r.stops.prefix ≢ [] → Refuses Whole after text end
              due_broken after end r n =
                  (next_lifts r.stops.prefix end r.stops.followed.viable r.stops.split n).refuses after end
                  (then_refuses P After is_after parts.apart after_first after due end after_followed.viable r)

              pub due_refused : Lacks begin due → Lacks is_ows due
                  → Refuses Whole (λ b. begin b || is_ows b) text due
              due_refused n k =
                  due_lifts.refuses _ due (record {
                    stops = record {
                      prefix = [];
                      split = refl;
                      followed = due_followed;
                      blocked = lacks_both begin is_ows due n k;
                    };
                    unspelled = no_due;
                  })

differs : (b c : ℕ) → b ≢ c → (b == c) ≡ false
differs b c h = grind arith

no_comma : (t : List ℕ) → FirstIs (λ b. b ≢ comma) t → Lacks (λ b. b == comma) t
no_comma [] h = tt
no_comma (b ∷ t) h = differs b comma h

pub lacks_more : (t : List ℕ) → Lacks is_ows t → FirstIs (λ b. b ≢ comma) t
    → Lacks (λ b. is_ows b || b == comma) t
lacks_more t h k = lacks_both is_ows (λ b. b == comma) t h (no_comma t k)

-- less is left after a comma
pub less_after : (left run at more gap due prefix end : List ℕ) → left ≡ run ++ at
    → at ≡ comma ∷ more → more ≡ gap ++ due → due ≡ prefix ++ end → length end < length left
less_after left run at more gap due prefix end e f g h =
    let p = ap length e in
    let q = ap length f in
    let r = ap length g in
    let s = ap length h in
    let t = length-append run at in
    let u = length-append gap due in
    let v = length-append prefix end in
    omega arith

-- the test of an empty run
pub empty_run : (x : Bool) (t : List ℕ) → x ≡ (length t == 0) → x ≡ true → t ≡ []
empty_run x [] e h = refl
empty_run x (b ∷ t) e h = absurd (some x (length t) e h)
  where
    some : (x : Bool) (n : ℕ) → x ≡ (suc n == 0) → x ≡ true → ⊥
    some x n e h = grind arith

pub some_run : (x : Bool) (t : List ℕ) → x ≡ (length t == 0) → x ≡ false → t ≢ []
some_run x t e h z = by (subst (λ s. x ≡ (length s == 0)) z e)
  where
    by : x ≡ (length {A = ℕ} [] == 0) → ⊥
    by e = cc

pub lacks_behind : (left run at : List ℕ) → left ≡ run ++ at → run ≡ []
    → Lacks (λ b. is_ows b || b == comma) at → Lacks (λ b. is_ows b || b == comma) left
lacks_behind left run at e z n =
    subst (Lacks (λ b. is_ows b || b == comma)) (sym (e ∙ ap (λ r. r ++ at) z)) n
