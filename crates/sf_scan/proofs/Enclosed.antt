-- Items in brackets: what follows in the rest of an Inner List.
use Rattle.std.proofs.Common.{◌≡◌, ◌≢◌, ℕ, Bool, true, false, List, [], ◌∷◌, ◌++◌, refl, sym, ap, ◌∙◌}
use Rattle.std.proofs.Common.{◌⊎◌, inl, inr, ◌==◌, ◌||◌, ◌≤◌, ◌+◌, length, subst, append_assoc, append-nil}
use Rattle.std.proofs.Common.{arith, eqb-true, length-append}
use Rattle.sf_value.specs.Ascii.{space, open_bracket, close_bracket}
use Rattle.sf_value.specs.Grammar.Classes.{is_sp}
use Rattle.sf_value.specs.Grammar.Lines.{Continues}
use Rattle.sf_value.specs.Grammar.Words.{Every}
use Rattle.sf_value.proofs.Runs.{every_append}
use Rattle.sf_scan.specs.InnerLists.{SpellsItemsBy, SpellsRestBy, SpellsInnerBy}
use Rattle.sf_scan.specs.Languages.{Then}
use Rattle.sf_scan.specs.Lifts.{Lifts}
use Rattle.sf_scan.specs.Places.{is_after}
use Rattle.sf_scan.specs.Stops.{Past, IsFollowed, Reads, Refuses}
use Rattle.sf_value.specs.Runs.{Lacks, FirstIs}
use Rattle.sf_scan.specs.Languages.{Apart, Begun}
use Rattle.sf_scan.proofs.Languages.{SameTexts}
use Rattle.sf_scan.proofs.Lifts.{same_then, same_more, lifts_past, lifts_first, past_continues}
use Rattle.sf_scan.proofs.Lists.{heads, tails, cons_nil}
use Rattle.sf_scan.proofs.Sequences.{or_left, or_right, or_cases, lacks_both, then_texts, then_stuck}
use Rattle.sf_scan.proofs.Sequences.{then_refuses, then_continues, continues_before_first}

pub begun_first : (p s : List ℕ) (c : ℕ) (t : List ℕ) → Begun p → c ∷ t ≡ p ++ s
    → is_after c ≡ false
begun_first [] s c t h e = absurd h
begun_first (d ∷ p) s c t h e = ap is_after (heads c d t (p ++ s) e) ∙ h

sp_after : (b : ℕ) → is_sp b ≡ true → is_after b ≡ true
sp_after b h = grind arith

close_after : (b : ℕ) → (b == close_bracket) ≡ true → is_after b ≡ true
close_after b h = grind arith

same_test : (b : ℕ) → b ≡ close_bracket → (b == close_bracket) ≡ true
same_test b e = grind arith

pub apart_tests : (x : Bool) → x ≡ true → x ≡ false → ⊥
apart_tests x h k = cc

close_no_space : (c : ℕ) → is_sp c ≡ true → c ≡ close_bracket → ⊥
close_no_space c h e = grind arith

none_at_least : (n : ℕ) → 0 ≤ n
none_at_least n = omega arith

at_least : (k m n : ℕ) → k ≤ m → k ≤ m + n
at_least k m n h = omega arith

module _ {X W : Type 0} (I : List ℕ → X → Type 0) (R : List ℕ → W → Type 0)
    (apart : Apart I is_after) (starts : (t : List ℕ) (x : X) → I t x → Begun t)
    (some : Continues R []) where
  abbrev Rest : ℕ → List ℕ → List X × W → Type 0
  Rest = SpellsRestBy I R

  abbrev Items : ℕ → List ℕ → List X → Type 0
  Items = SpellsItemsBy I

  -- what the rest begins with: a space, the closing bracket, or an Item
  abbrev View : ℕ → List ℕ → W → Type 0
  View c t w =
      (is_sp c ≡ true)
      ⊎ (((c ≡ close_bracket) × R t w)
      ⊎ ((is_after c ≡ false) × ((x : X × (List X × W)) × Then I (Rest 1) (c ∷ t) x)))

  view : (k c : ℕ) (t : List ℕ) (is : List X) (w : W) → Rest k (c ∷ t) (is, w) → View c t w
  view k c t [] w h = by h.0 h.2 h.3
    where
      by : (body : List ℕ) → c ∷ t ≡ body ++ close_bracket ∷ h.1 → Every is_sp body → View c t w
      by [] e i =
          inr (inl (heads c close_bracket t h.1 e, subst (λ s. R s w) (sym (tails c close_bracket t h.1 e)) h.4))
      by (d ∷ body) e i = inl (ap is_sp (heads c d t _ e) ∙ i.0)
  view k c t (x ∷ is) w h = by m.0 m.3 m.4
    where
      m : Items k h.0 (x ∷ is)
      m = h.3

      by : (gap : List ℕ) → h.0 ≡ gap ++ (m.1 ++ m.2) → Every is_sp gap → View c t w
      by [] e i =
          let f : c ∷ t ≡ m.1 ++ (m.2 ++ close_bracket ∷ h.1) =
          h.2 ∙ (ap (λ z. z ++ close_bracket ∷ h.1) e ∙ append_assoc m.1 m.2 (close_bracket ∷ h.1)) in
          inr (inr (
            begun_first m.1 (m.2 ++ close_bracket ∷ h.1) c t (starts m.1 x m.6) f,
            (
              (x, (is, w)),
              (m.1, m.2 ++ close_bracket ∷ h.1, f, m.6, (m.2, h.1, refl, m.7, h.4)),
            ),
          ))
      by (d ∷ gap) e i =
          let f : c ∷ t ≡ d ∷ ((gap ++ (m.1 ++ m.2)) ++ close_bracket ∷ h.1) =
          h.2 ∙ ap (λ z. z ++ close_bracket ∷ h.1) e in
          inl (ap is_sp (heads c d t _ f) ∙ i.0)

  -- after an Item, a space or the closing bracket
  rest_head : (c : ℕ) (t : List ℕ) (is : List X) (w : W) → Rest 1 (c ∷ t) (is, w)
      → (is_sp c || c == close_bracket) ≡ true
  rest_head c t [] w h = by h.0 h.2 h.3
    where
      by : (body : List ℕ) → c ∷ t ≡ body ++ close_bracket ∷ h.1 → Every is_sp body
          → (is_sp c || c == close_bracket) ≡ true
      by [] e i =
          or_right (is_sp c) (c == close_bracket) (same_test c (heads c close_bracket t h.1 e))
      by (d ∷ body) e i =
          or_left (is_sp c) (c == close_bracket) (ap is_sp (heads c d t _ e) ∙ i.0)
  rest_head c t (x ∷ is) w h = by m.0 m.3 m.4 m.5
    where
      m : Items 1 h.0 (x ∷ is)
      m = h.3

      by : (gap : List ℕ) → h.0 ≡ gap ++ (m.1 ++ m.2) → Every is_sp gap → 1 ≤ length gap
          → (is_sp c || c == close_bracket) ≡ true
      by [] e i l = absurd (omega arith)
      by (d ∷ gap) e i l =
          let f : c ∷ t ≡ d ∷ ((gap ++ (m.1 ++ m.2)) ++ close_bracket ∷ h.1) =
          h.2 ∙ ap (λ z. z ++ close_bracket ∷ h.1) e in
          or_left (is_sp c) (c == close_bracket) (ap is_sp (heads c d t _ f) ∙ i.0)

  after_test : (c : ℕ) → (is_sp c || c == close_bracket) ≡ true → is_after c ≡ true
  after_test c h = elim (or_cases (is_sp c) (c == close_bracket) h) [
    | inl k ↦ sp_after c k
    | inr k ↦ close_after c k
  ]

  rest_first : (t : List ℕ) (v : List X × W) → Rest 1 t v → FirstIs (λ b. is_after b ≡ true) t
  rest_first [] v h = tt
  rest_first (c ∷ t) v h = after_test c (rest_head c t v.0 v.1 h)

  no_rest : (k : ℕ) (v : List X × W) → Rest k [] v → ⊥
  no_rest k v h = by h.0 h.2
    where
      by : (body : List ℕ) → [] ≡ body ++ close_bracket ∷ h.1 → ⊥
      by [] e = cons_nil close_bracket h.1 (sym e)
      by (c ∷ body) e = cons_nil c _ (sym e)

  abbrev closing : Continues (Rest 1) (close_bracket ∷ [])
  closing = (some.0, ([], some.1), ([], some.0, refl, tt, some.2))

  rest_followed : IsFollowed (Rest 1) (λ b. is_sp b || b == close_bracket) []
  rest_followed = record {
    viable = (close_bracket ∷ some.0, ([], some.1), ([], some.0, refl, tt, some.2));
    may = λ b h. elim (or_cases (is_sp b) (b == close_bracket) h) [
      | inl k ↦ (
        close_bracket ∷ some.0,
        ([], some.1),
        (b ∷ [], some.0, refl, (k, tt), some.2),
      )
      | inr k ↦ (
        some.0,
        ([], some.1),
        ([], some.0, ap (λ x. x ∷ some.0) (eqb-true b close_bracket k), tt, some.2),
      )
    ];
    only = λ b c. rest_head b c.0 c.1.0 c.1.1 c.2;
  }

  pub open_followed : (begin : ℕ → Bool) → IsFollowed I begin []
      → IsFollowed (Rest 0) (λ b. begin b || (is_sp b || b == close_bracket)) []
  open_followed begin f = record {
    viable = (close_bracket ∷ some.0, ([], some.1), ([], some.0, refl, tt, some.2));
    may = λ b h. elim (or_cases (begin b) (is_sp b || b == close_bracket) h) [
      | inl k ↦ one b (f.may b k)
      | inr k ↦ elim (or_cases (is_sp b) (b == close_bracket) k) [
        | inl j ↦ (
          close_bracket ∷ some.0,
          ([], some.1),
          (b ∷ [], some.0, refl, (j, tt), some.2),
        )
        | inr j ↦ (
          some.0,
          ([], some.1),
          ([], some.0, ap (λ x. x ∷ some.0) (eqb-true b close_bracket j), tt, some.2),
        )
      ]
    ];
    only = λ b c. elim (view 0 b c.0 c.1.0 c.1.1 c.2) [
      | inl k ↦ or_right (begin b) _ (or_left (is_sp b) (b == close_bracket) k)
      | inr k ↦ elim k [
        | inl j ↦ or_right (begin b) _ (or_right (is_sp b) (b == close_bracket) (same_test b j.0))
        | inr j ↦ or_left (begin b) _ (f.only b (first_item b c.0 j.1.0 j.1.1))
      ]
    ];
  }
    where
      one : (b : ℕ) → Continues I (b ∷ []) → Continues (Rest 0) (b ∷ [])
      one b c = (
        c.0 ++ close_bracket ∷ some.0,
        (c.1 ∷ [], some.1),
        (
          b ∷ c.0,
          some.0,
          refl,
          ([], b ∷ c.0, [], sym (append-nil (b ∷ c.0)), tt, none_at_least 0, c.2, tt),
          some.2,
        ),
      )

      first_item : (b : ℕ) (u : List ℕ) (x : X × (List X × W)) → Then I (Rest 1) (b ∷ u) x
          → Continues I (b ∷ [])
      first_item b u x h = by h.0 h.2 h.3
        where
          by : (p : List ℕ) → b ∷ u ≡ p ++ h.1 → I p x.0 → Continues I (b ∷ [])
          by [] e i = absurd (starts [] x.0 i)
          by (d ∷ p) e i =
              let same : d ≡ b = sym (heads b d u (p ++ h.1) e) in
              (p, x.0, subst (λ z. I (z ∷ p) x.0) same i)

  -- spaces first
  drop_space : (c : ℕ) (body : List ℕ) (is : List X) → is_sp c ≡ true → Items 0 (c ∷ body) is
      → Items 0 body is
  drop_space c body [] k h = h.1
  drop_space c body (x ∷ is) k h = by h.0 h.3 h.4
    where
      by : (gap : List ℕ) → c ∷ body ≡ gap ++ (h.1 ++ h.2) → Every is_sp gap → Items 0 body (x ∷ is)
      by [] e i =
          absurd (apart_tests (is_after c) (sp_after c k)
          (begun_first h.1 h.2 c body (starts h.1 x h.6) e))
      by (d ∷ gap) e i =
          (gap, h.1, h.2, tails c d body _ e, i.1, none_at_least (length gap), h.6, h.7)

  fewer : (k : ℕ) (body : List ℕ) (is : List X) → Items k body is → Items 0 body is
  fewer k body [] h = h
  fewer k body (x ∷ is) h = (h.0, h.1, h.2, h.3, h.4, none_at_least (length h.0), h.6, h.7)

  more_space : (k : ℕ) (gap body : List ℕ) (is : List X) → Every is_sp gap → k ≤ length gap
      → Items 0 body is → Items k (gap ++ body) is
  more_space k gap body [] i l h = every_append is_sp gap body i h
  more_space k gap body (x ∷ is) i l h = (
    gap ++ h.0,
    h.1,
    h.2,
    ap (λ z. gap ++ z) h.3 ∙ sym (append_assoc gap h.0 (h.1 ++ h.2)),
    every_append is_sp gap h.0 i h.4,
    rw (length-append gap h.0) (at_least k (length gap) (length h.0) l),
    h.6,
    h.7,
  )

  shorter : (gap t body suffix : List ℕ) (is : List X) → Every is_sp gap
      → gap ++ t ≡ body ++ close_bracket ∷ suffix → Items 0 body is
      → (inside : List ℕ) × (t ≡ inside ++ close_bracket ∷ suffix) × Items 0 inside is
  shorter [] t body suffix is i e h = (body, e, h)
  shorter (g ∷ gap) t [] suffix is i e h =
      absurd (close_no_space g i.0 (heads g close_bracket _ suffix e))
  shorter (g ∷ gap) t (c ∷ body) suffix is i e h =
      shorter gap t body suffix is i.1 (tails g c _ _ e)
      (drop_space c body is (ap is_sp (sym (heads g c _ _ e)) ∙ i.0) h)

  gap_texts : (k : ℕ) (gap : List ℕ) → Every is_sp gap → k ≤ length gap
      → SameTexts (Rest 0) (Past gap (Rest k)) (λ v. v)
  gap_texts k gap i l = record {
    up = λ t v h. (
      gap ++ h.0,
      h.1,
      ap (λ z. gap ++ z) h.2 ∙ sym (append_assoc gap h.0 (close_bracket ∷ h.1)),
      more_space k gap h.0 v.0 i l h.3,
      h.4,
    );
    down = λ t v h.
        let s = shorter gap t h.0 h.1 v.0 i h.2 (fewer k h.0 v.0 h.3) in
        (v, (s.0, h.1, s.1, s.2, h.4));
  }

  -- the closing bracket
  close_texts : (k : ℕ) → SameTexts R (Past (close_bracket ∷ []) (Rest k)) (λ w. ([], w))
  close_texts k = record {
    up = λ t w h. ([], t, refl, tt, h);
    down = λ t v h. elim (view k close_bracket t v.0 v.1 h) [
      | inl s ↦ absurd (close_no_space close_bracket s refl)
      | inr s ↦ elim s [
        | inl r ↦ (v.1, r.1)
        | inr r ↦ absurd (apart_tests (is_after close_bracket) refl r.0)
      ]
    ];
  }

  -- an Item
  open_texts : (c : ℕ) → is_after c ≡ false
      → SameTexts (Past (c ∷ []) (Then I (Rest 1))) (Past (c ∷ []) (Rest 0))
      (λ v. (v.0 ∷ v.1.0, v.1.1))
  open_texts c k = record {
    up = λ t v h. (
      h.0 ++ h.4.0,
      h.4.1,
      h.2 ∙ (ap (λ z. h.0 ++ z) h.4.2 ∙ sym (append_assoc h.0 h.4.0 (close_bracket ∷ h.4.1))),
      ([], h.0, h.4.0, refl, tt, none_at_least 0, h.3, h.4.3),
      h.4.4,
    );
    down = λ t v h. elim (view 0 c t v.0 v.1 h) [
      | inl s ↦ absurd (apart_tests (is_after c) (sp_after c s) k)
      | inr s ↦ elim s [
        | inl r ↦ absurd (apart_tests (is_after c) (close_after c (same_test c r.0)) k)
        | inr r ↦ r.1
      ]
    ];
  }

  item_texts : (p : List ℕ) (x : X) (c : ℕ) → I p x → is_after c ≡ true
      → SameTexts (Past (c ∷ []) (Rest 1)) (Past (p ++ c ∷ []) (Rest 0)) (λ v. (x ∷ v.0, v.1))
  item_texts [] x c h k = absurd (starts [] x h)
  item_texts (b ∷ p) x c h k =
      same_then (Past (c ∷ []) (Rest 1)) (Past (b ∷ (p ++ c ∷ [])) (Then I (Rest 1)))
      (Past (b ∷ (p ++ c ∷ [])) (Rest 0)) (λ v. (x, v)) (λ v. (v.0 ∷ v.1.0, v.1.1))
      (then_texts I (Rest 1) is_after apart rest_first (b ∷ p) x c h k)
      (same_more (Then I (Rest 1)) (Rest 0) _ b (p ++ c ∷ []) (open_texts b (starts (b ∷ p) x h)))

  -- how they are read
  pub gap_lifts : (text gap at : List ℕ) → text ≡ gap ++ at → Every is_sp gap
      → Lifts (Rest 0) at (Rest 0) text (λ v. v)
  gap_lifts text gap at e i =
      lifts_past (Rest 0) (Rest 0) (λ v. v) gap at text
      (gap_texts 0 gap i (none_at_least (length gap))) e

  pub close_lifts : (at after : List ℕ) → at ≡ close_bracket ∷ after
      → Lifts R after (Rest 0) at (λ w. ([], w))
  close_lifts at after e =
      lifts_past R (Rest 0) (λ w. ([], w)) (close_bracket ∷ []) after at (close_texts 0) e

  split_at : (at p left more : List ℕ) (c : ℕ) → at ≡ p ++ left → left ≡ c ∷ more
      → at ≡ (p ++ c ∷ []) ++ more
  split_at at p left more c e f = e ∙ (ap (λ z. p ++ z) f ∙ sym (append_assoc p (c ∷ []) more))

  pub item_space_lifts : (next : ℕ → Bool) (at : List ℕ) (x : X) (left more : List ℕ)
      → Reads I next at x left → left ≡ space ∷ more
      → Lifts (Rest 0) more (Rest 0) at (λ v. (x ∷ v.0, v.1))
  item_space_lifts next at x left more r e =
      lifts_past (Rest 0) (Rest 0) (λ v. (x ∷ v.0, v.1)) (r.stops.prefix ++ space ∷ []) more at
      (same_then (Rest 0) (Past (space ∷ []) (Rest 1)) (Past (r.stops.prefix ++ space ∷ []) (Rest 0))
      (λ v. v) (λ v. (x ∷ v.0, v.1)) (gap_texts 1 (space ∷ []) (refl, tt) (at_least 1 1 0 (omega arith)))
      (item_texts r.stops.prefix x space r.spelled refl))
      (split_at at r.stops.prefix left more space r.stops.split e)

  pub item_close_lifts : (next : ℕ → Bool) (at : List ℕ) (x : X) (left more : List ℕ)
      → Reads I next at x left → left ≡ close_bracket ∷ more
      → Lifts R more (Rest 0) at (λ w. (x ∷ [], w))
  item_close_lifts next at x left more r e =
      lifts_past R (Rest 0) (λ w. (x ∷ [], w)) (r.stops.prefix ++ close_bracket ∷ []) more at
      (same_then R (Past (close_bracket ∷ []) (Rest 1))
      (Past (r.stops.prefix ++ close_bracket ∷ []) (Rest 0)) (λ w. ([], w)) (λ v. (x ∷ v.0, v.1))
      (close_texts 1) (item_texts r.stops.prefix x close_bracket r.spelled refl))
      (split_at at r.stops.prefix left more close_bracket r.stops.split e)

  -- a prefix that is not empty begins with the first byte of an Item
  inside_lifts : (p at left : List ℕ) → Continues I p → at ≡ p ++ left → p ≢ []
      → Lifts (Then I (Rest 1)) at (Rest 0) at (λ v. (v.0 ∷ v.1.0, v.1.1))
  inside_lifts [] at left k e n = absurd (n refl)
  inside_lifts (c ∷ p) at left k e n =
      lifts_first (Then I (Rest 1)) (Rest 0) _ c (p ++ left) at
      (then_continues I (Rest 1) is_after apart rest_first rest_followed.viable (c ∷ [])
      (continues_before_first I c p k))
      (open_texts c (starts (c ∷ (p ++ k.0)) k.1 k.2)) e

  item_not_none : (p : List ℕ) (x : X) → I p x → p ≢ []
  item_not_none p x h e = starts [] x (subst (λ t. I t x) e h)

  -- something else after an Item
  pub item_stuck : (next : ℕ → Bool) (at : List ℕ) (x : X) (left : List ℕ) → Reads I next at x left
      → Lacks (λ b. is_sp b || b == close_bracket) left
      → Refuses (Rest 0) (λ b. next b || (is_sp b || b == close_bracket)) at left
  item_stuck next at x left r n =
      (inside_lifts r.stops.prefix at left r.stops.followed.viable r.stops.split
      (item_not_none r.stops.prefix x r.spelled)).refuses _ left
      (then_stuck I (Rest 1) is_after apart rest_first next (λ b. is_sp b || b == close_bracket) at x
      left r rest_followed n (no_rest 1))

  -- in an Item
  pub item_broken : (next : ℕ → Bool) (at left : List ℕ) → (r : Refuses I next at left)
      → r.stops.prefix ≢ [] → Refuses (Rest 0) next at left
  item_broken next at left r n =
      (inside_lifts r.stops.prefix at left r.stops.followed.viable r.stops.split n).refuses next left
      (then_refuses I (Rest 1) is_after apart rest_first next at left rest_followed.viable r)

  -- before one
  pub open_refused : (begin : ℕ → Bool) (at : List ℕ) → IsFollowed I begin []
      → Lacks begin at → Lacks (λ b. is_sp b || b == close_bracket) at
      → Refuses (Rest 0) (λ b. begin b || (is_sp b || b == close_bracket)) at at
  open_refused begin at f n k = record {
    stops = record {
      prefix = [];
      split = refl;
      followed = open_followed begin f;
      blocked = lacks_both begin (λ b. is_sp b || b == close_bracket) at n k;
    };
    unspelled = no_rest 0;
  }

  -- what ends the parameters ends the Inner List
  item_continues : (p : List ℕ) (x : X) (t u : List ℕ) → I p x
      → FirstIs (λ b. is_after b ≡ true) t → t ≢ [] → Continues (Rest 0) (p ++ (t ++ u))
      → Continues (Rest 1) (t ++ u)
  item_continues p x [] u h f n c = absurd (n refl)
  item_continues p x (b ∷ t) u h f n c =
      past_continues (Past (b ∷ []) (Rest 1)) (Rest 0) (λ v. (x ∷ v.0, v.1)) (p ++ b ∷ []) (t ++ u)
      (item_texts p x b h f)
      (subst (Continues (Rest 0)) (sym (append_assoc p (b ∷ []) (t ++ u))) c)

  not_closed : (body s : List ℕ) → body ++ close_bracket ∷ s ≢ []
  not_closed [] s e = cons_nil close_bracket s e
  not_closed (b ∷ body) s e = cons_nil b _ e

  one_space : (k : ℕ) (d : ℕ) (body : List ℕ) → k ≤ 1 → k ≤ length (d ∷ body)
  one_space k d body l = omega arith

  abbrev RestEnds : ℕ → List X → Type 0
  RestEnds k is =
      (t : List ℕ) (w : W) (b : ℕ) → Rest k t (is, w) → is_after b ≡ true
      → Continues (Rest k) (t ++ b ∷ []) → ⊥

  rest_ends : Apart R is_after → (k : ℕ) → k ≤ 1 → (is : List X) → RestEnds k is
  rest_ends after k l [] t w b h f c = by h.0 h.2 h.3
    where
      by : (body : List ℕ) → t ≡ body ++ close_bracket ∷ h.1 → Every is_sp body → ⊥
      by [] e i =
          after h.1 w b h.4 f (past_continues R (Rest k) (λ z. ([], z)) (close_bracket ∷ [])
          (h.1 ++ b ∷ []) (close_texts k) (subst (λ z. Continues (Rest k) (z ++ b ∷ [])) e c))
      by (d ∷ body) e i =
          let moved : Continues (Rest k) (d ∷ (body ++ (close_bracket ∷ (h.1 ++ b ∷ [])))) =
          subst (Continues (Rest k)) (append_assoc (d ∷ body) (close_bracket ∷ h.1) (b ∷ []))
          (subst (λ z. Continues (Rest k) (z ++ b ∷ [])) e c) in
          after h.1 w b h.4 f (past_continues R (Rest 0) (λ z. ([], z)) (close_bracket ∷ [])
          (h.1 ++ b ∷ []) (close_texts 0)
          (past_continues (Rest 0) (Rest k) (λ z. z) (d ∷ body) (close_bracket ∷ (h.1 ++ b ∷ []))
          (gap_texts k (d ∷ body) i (one_space k d body l)) moved))
  rest_ends after k l (x ∷ is) t w b h f c =
      let m : Items k h.0 (x ∷ is) = h.3 in
      let rest : List ℕ = m.2 ++ close_bracket ∷ h.1 in
      let spelled : Rest 1 rest (is, w) = (m.2, h.1, refl, m.7, h.4) in
      let whole : t ++ b ∷ [] ≡ m.0 ++ (m.1 ++ (rest ++ b ∷ [])) = moved m.0 m.1 m.2 m.3 in
      rest_ends after 1 (at_least 1 1 0 (omega arith)) is rest w b spelled f
      (item_continues m.1 x rest (b ∷ []) m.6 (rest_first rest (is, w) spelled)
      (not_closed m.2 h.1)
      (past_continues (Rest 0) (Rest k) (λ z. z) m.0 (m.1 ++ (rest ++ b ∷ []))
      (gap_texts k m.0 m.4 m.5) (subst (Continues (Rest k)) whole c)))
    where
      moved : (gap p q : List ℕ) → h.0 ≡ gap ++ (p ++ q)
          → t ++ b ∷ [] ≡ gap ++ (p ++ ((q ++ close_bracket ∷ h.1) ++ b ∷ []))
      moved gap p q e =
          ap (λ z. z ++ b ∷ []) (h.2 ∙ ap (λ z. z ++ close_bracket ∷ h.1) e) ∙ simp append_assoc

  abbrev Inner : List ℕ → List X × W → Type 0
  Inner = SpellsInnerBy I R

  pub inner_texts : SameTexts (Rest 0) (Past (open_bracket ∷ []) Inner) (λ v. v)
  inner_texts = record {
    up = λ t v h. (h.0, h.1, ap (λ z. open_bracket ∷ z) h.2, h.3, h.4);
    down = λ t v h. (v, (h.0, h.1, tails open_bracket open_bracket t _ h.2, h.3, h.4));
  }

  pub inner_apart : Apart R is_after → Apart Inner is_after
  inner_apart after a v b h f c =
      rest_ends after 0 (none_at_least 1) v.0 (h.0 ++ close_bracket ∷ h.1) v.1 b
      (h.0, h.1, refl, h.3, h.4) f
      (past_continues (Rest 0) Inner (λ z. z) (open_bracket ∷ [])
      ((h.0 ++ close_bracket ∷ h.1) ++ b ∷ []) inner_texts
      (subst (λ z. Continues Inner (z ++ b ∷ [])) h.2 c))

  pub inner_first : (c : ℕ) (t : List ℕ) (v : List X × W) → Inner (c ∷ t) v → c ≡ open_bracket
  inner_first c t v h = heads c open_bracket t _ h.2

  pub no_inner : (v : List X × W) → Inner [] v → ⊥
  no_inner v h = cons_nil open_bracket _ (sym h.2)

  open_test : (b : ℕ) → b ≡ open_bracket → (b == open_bracket) ≡ true
  open_test b e = grind arith

  pub inner_followed : IsFollowed Inner (λ b. b == open_bracket) []
  inner_followed = record {
    viable = (
      open_bracket ∷ (close_bracket ∷ some.0),
      ([], some.1),
      ([], some.0, refl, tt, some.2),
    );
    may = λ b h. (
      close_bracket ∷ some.0,
      ([], some.1),
      (
        [],
        some.0,
        ap (λ x. x ∷ (close_bracket ∷ some.0)) (eqb-true b open_bracket h),
        tt,
        some.2,
      ),
    );
    only = λ b c. open_test b (inner_first b c.0 c.1 c.2);
  }
