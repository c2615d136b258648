-- A text with spaces on both sides.
use Rattle.std.proofs.Common.{◌≡◌, ◌≢◌, ℕ, Bool, true, false, List, [], ◌∷◌, ◌++◌, refl, sym, ap, ◌∙◌}
use Rattle.std.proofs.Common.{◌⊎◌, inl, inr, ◌||◌, subst, append_assoc, append-nil, arith}
use Rattle.sf_value.specs.Grammar.Classes.{is_sp}
use Rattle.sf_value.specs.Grammar.Lines.{Continues}
use Rattle.sf_value.specs.Grammar.Words.{Every}
use Rattle.sf_value.proofs.Runs.{every_append}
use Rattle.sf_scan.specs.ItemFields.{SpellsSpaced}
use Rattle.sf_scan.specs.Languages.{Then}
use Rattle.sf_scan.specs.Lifts.{Lifts}
use Rattle.sf_scan.specs.Places.{is_after}
use Rattle.sf_scan.specs.Stops.{Past, IsFollowed, Reads, Refuses}
use Rattle.sf_value.specs.Runs.{Lacks, FirstIs}
use Rattle.sf_scan.specs.Languages.{Begun}
use Rattle.sf_scan.proofs.Enclosed.{begun_first}
use Rattle.sf_scan.specs.Languages.{Apart}
use Rattle.sf_scan.proofs.Languages.{SameTexts}
use Rattle.sf_scan.proofs.Lifts.{lifts_past, lifts_then, lifts_first}
use Rattle.sf_scan.proofs.Lists.{heads, tails, cons_nil}
use Rattle.sf_scan.proofs.Sequences.{or_left, or_right, or_cases, lacks_both, then_reads, then_ends}
use Rattle.sf_scan.proofs.Sequences.{then_refuses, then_continues, continues_before_first}

sp_after : (b : ℕ) → is_sp b ≡ true → is_after b ≡ true
sp_after b h = grind arith

two_ways : (x : Bool) → x ≡ true → x ≡ false → ⊥
two_ways x h k = cc

-- spaces alone
abbrev pub Spaces : List ℕ → Unit {0} → Type 0
Spaces t u = Every is_sp t

spaces_first : (t : List ℕ) (u : Unit {0}) → Spaces t u → FirstIs (λ b. is_after b ≡ true) t
spaces_first [] u h = tt
spaces_first (b ∷ t) u h = sp_after b h.0

spaces_followed : (t : List ℕ) → Every is_sp t → IsFollowed Spaces is_sp t
spaces_followed t h = record {
  viable = ([], tt, subst (Every is_sp) (sym (append-nil t)) h);
  may = λ b k. (
    [],
    tt,
    subst (Every is_sp) (sym (append-nil (t ++ b ∷ []))) (every_append is_sp t (b ∷ []) h (k, tt)),
  );
  only = λ b c. at t b c.0 c.2;
}
  where
    at : (t : List ℕ) (b : ℕ) (u : List ℕ) → Every is_sp ((t ++ b ∷ []) ++ u) → is_sp b ≡ true
    at [] b u h = h.0
    at (c ∷ t) b u h = at t b u h.1

module _ {X : Type 0} (I : List ℕ → X → Type 0) (apart : Apart I is_after)
    (starts : (t : List ℕ) (x : X) → I t x → Begun t) where
  abbrev Field : List ℕ → X → Type 0
  Field = SpellsSpaced I

  abbrev Opens : List ℕ → X × Unit {0} → Type 0
  Opens = Then I Spaces

  field_view : (c : ℕ) (t : List ℕ) (x : X) → Field (c ∷ t) x
      → ((is_sp c ≡ true) × Field t x) ⊎ ((is_after c ≡ false) × Opens (c ∷ t) (x, tt))
  field_view c t x h = by h.0 h.3 h.4
    where
      by : (gap : List ℕ) → c ∷ t ≡ gap ++ (h.1 ++ h.2) → Every is_sp gap
          → ((is_sp c ≡ true) × Field t x) ⊎ ((is_after c ≡ false) × Opens (c ∷ t) (x, tt))
      by [] e w = inr (begun_first h.1 h.2 c t (starts h.1 x h.5) e, (h.1, h.2, e, h.5, h.6))
      by (d ∷ gap) e w =
          inl (
            ap is_sp (heads c d t _ e) ∙ w.0,
            (gap, h.1, h.2, tails c d t _ e, w.1, h.5, h.6),
          )

  field_dropped : (gap t : List ℕ) (x : X) → Every is_sp gap → Field (gap ++ t) x → Field t x
  field_dropped [] t x w h = h
  field_dropped (c ∷ gap) t x w h =
      field_dropped gap t x w.1 (elim (field_view c (gap ++ t) x h) [
        | inl k ↦ k.1
        | inr k ↦ absurd (two_ways (is_after c) (sp_after c w.0) k.0)
      ])

  field_gap : (gap : List ℕ) → Every is_sp gap → SameTexts Field (Past gap Field) (λ x. x)
  field_gap gap w = record {
    up = λ t x h. (
      gap ++ h.0,
      h.1,
      h.2,
      ap (λ z. gap ++ z) h.3 ∙ sym (append_assoc gap h.0 (h.1 ++ h.2)),
      every_append is_sp gap h.0 w h.4,
      h.5,
      h.6,
    );
    down = λ t x h. (x, field_dropped gap t x w h);
  }

  field_open : (c : ℕ) → is_after c ≡ false
      → SameTexts (Past (c ∷ []) Opens) (Past (c ∷ []) Field) (λ v. v.0)
  field_open c k = record {
    up = λ t v h. ([], h.0, h.1, h.2, tt, h.3, h.4);
    down = λ t x h. elim (field_view c t x h) [
      | inl s ↦ absurd (two_ways (is_after c) (sp_after c s.0) k)
      | inr s ↦ ((x, tt), s.1)
    ];
  }

  no_field : (x : X) → Field [] x → ⊥
  no_field x h = by h.0 h.1 h.3 h.5
    where
      by : (gap p : List ℕ) → [] ≡ gap ++ (p ++ h.2) → I p x → ⊥
      by (c ∷ gap) p e i = cons_nil c _ (sym e)
      by [] (c ∷ p) e i = cons_nil c _ (sym e)
      by [] [] e i = starts [] x i

  field_followed : (begin : ℕ → Bool) → IsFollowed I begin []
      → IsFollowed Field (λ b. begin b || is_sp b) []
  field_followed begin f = record {
    viable = let c = f.viable in
        (c.0, c.1, ([], c.0, [], sym (append-nil c.0), tt, c.2, tt));
    may = λ b h. elim (or_cases (begin b) (is_sp b) h) [
      | inl k ↦
          let c = f.may b k in
          (c.0, c.1, ([], b ∷ c.0, [], sym (append-nil (b ∷ c.0)), tt, c.2, tt))
      | inr k ↦
          let c = f.viable in (
            c.0,
            c.1,
            (b ∷ [], c.0, [], ap (λ z. b ∷ z) (sym (append-nil c.0)), (k, tt), c.2, tt),
          )
    ];
    only = λ b c. elim (field_view b c.0 c.1 c.2) [
      | inl k ↦ or_right (begin b) (is_sp b) k.0
      | inr k ↦ or_left (begin b) (is_sp b) (f.only b (first_byte b c.0 c.1 k.1))
    ];
  }
    where
      first_byte : (b : ℕ) (u : List ℕ) (x : X) → Opens (b ∷ u) (x, tt) → Continues I (b ∷ [])
      first_byte b u x h = by h.0 h.2 h.3
        where
          by : (p : List ℕ) → b ∷ u ≡ p ++ h.1 → I p x → Continues I (b ∷ [])
          by [] e i = absurd (starts [] x i)
          by (d ∷ p) e i =
              let same : d ≡ b = sym (heads b d u (p ++ h.1) e) in
              (p, x, subst (λ z. I (z ∷ p) x) same i)

  module _ (text gap start : List ℕ) (split : text ≡ gap ++ start) (spaces : Every is_sp gap) where
    start_lifts : Lifts Field start Field text (λ x. x)
    start_lifts = lifts_past Field Field (λ x. x) gap start text (field_gap gap spaces) split

    open_lifts : (p left : List ℕ) → Continues I p → start ≡ p ++ left → p ≢ []
        → Lifts Opens start Field text (λ v. v.0)
    open_lifts [] left k e n = absurd (n refl)
    open_lifts (c ∷ p) left k e n =
        lifts_then Opens Field Field (λ v. v.0) (λ x. x) start start text
        (lifts_first Opens Field (λ v. v.0) c (p ++ left) start
        (then_continues I Spaces is_after apart spaces_first ([], tt, tt) (c ∷ [])
        (continues_before_first I c p k))
        (field_open c (starts (c ∷ (p ++ k.0)) k.1 k.2)) e) start_lifts

    pub field_broken : (next : ℕ → Bool) (left : List ℕ) → (r : Refuses I next start left)
        → r.stops.prefix ≢ [] → Refuses Field next text left
    field_broken next left r n =
        (open_lifts r.stops.prefix left r.stops.followed.viable r.stops.split n).refuses next left
        (then_refuses I Spaces is_after apart spaces_first next start left ([], tt, tt) r)

    pub field_refused : (begin : ℕ → Bool) → IsFollowed I begin [] → Lacks begin start
        → Lacks is_sp start → Refuses Field (λ b. begin b || is_sp b) text start
    field_refused begin f n k =
        start_lifts.refuses _ start (record {
          stops = record {
            prefix = [];
            split = refl;
            followed = field_followed begin f;
            blocked = lacks_both begin is_sp start n k;
          };
          unspelled = no_field;
        })

    module _ (next : ℕ → Bool) (x : X) (left : List ℕ) (r : Reads I next start x left) where
      read_lifts : Lifts Opens start Field text (λ v. v.0)
      read_lifts =
          open_lifts r.stops.prefix left r.stops.followed.viable r.stops.split
          (λ e. starts [] x (subst (λ t. I t x) e r.spelled))

      pub field_ends : Lacks is_sp left → Reads Field (λ b. next b || is_sp b) text x left
      field_ends n =
          read_lifts.reads _ (x, tt) left
          (then_ends I Spaces is_after apart spaces_first next is_sp start x tt left r
          (spaces_followed [] tt) n tt)

      pub field_spaces : (run at : List ℕ) → left ≡ run ++ at → Every is_sp run → run ≢ []
          → Lacks is_sp at → Reads Field is_sp text x at
      field_spaces [] at e w n k = absurd (n refl)
      field_spaces (c ∷ run) at e w n k =
          read_lifts.reads _ (x, tt) at
          (then_reads I Spaces is_after apart spaces_first next is_sp start x left c (run ++ at) tt at r
          e (sp_after c w.0) ([], tt, (w.0, tt)) (record {
            stops = record {
              prefix = c ∷ run;
              split = e;
              followed = spaces_followed (c ∷ run) w;
              blocked = k;
            };
            spelled = w;
          }))
