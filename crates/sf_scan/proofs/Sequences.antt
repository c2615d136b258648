-- Sequences: a text of one language and then a text of another, where no byte that begins the second
-- can continue a text of the first.
use Rattle.std.proofs.Common.{◌≡◌, ◌≢◌, length, length-append, ℕ, Bool, true, false, List, [], ◌∷◌, ◌++◌, refl, sym, ap, ◌∙◌}
use Rattle.std.proofs.Common.{◌⊎◌, inl, inr, ◌||◌, subst, append_assoc, append-nil, arith}
use Rattle.sf_value.specs.Grammar.Lines.{Continues}
use Rattle.sf_scan.specs.Languages.{Then}
use Rattle.sf_scan.specs.Stops.{Past, IsFollowed, Stops, Reads, Refuses}
use Rattle.sf_value.specs.Runs.{Lacks, FirstIs}
use Rattle.sf_scan.specs.Languages.{Apart}
use Rattle.sf_scan.proofs.Languages.{cut, continues_before, past_reads, past_refuses}
use Rattle.sf_scan.proofs.Languages.{SameTexts}
use Rattle.sf_scan.proofs.Languages.{same_reads, same_refuses}
use Rattle.sf_scan.proofs.Lists.{heads, tails, cons_nil, Longer, SameSplit}

-- a text of L is a prefix of one
pub continues_itself : {V : Type 0} (L : List ℕ → V → Type 0) (p : List ℕ) (v : V) → L p v
    → Continues L p
continues_itself L p v h = ([], v, subst (λ t. L t v) (sym (append-nil p)) h)

-- the first byte of a prefix is one
pub continues_before_first : {V : Type 0} (L : List ℕ → V → Type 0) (c : ℕ) (p : List ℕ)
    → Continues L (c ∷ p) → Continues L (c ∷ [])
continues_before_first L c p h = (p ++ h.0, h.1, h.2)

-- either of two tests
pub or_left : (x y : Bool) → x ≡ true → (x || y) ≡ true
or_left x y h = rw h refl

pub or_right : (x y : Bool) → y ≡ true → (x || y) ≡ true
or_right true y h = refl
or_right false y h = h

pub or_cases : (x y : Bool) → (x || y) ≡ true → (x ≡ true) ⊎ (y ≡ true)
or_cases true y h = inl refl
or_cases false y h = inr h

pub lacks_both : (p q : ℕ → Bool) (t : List ℕ) → Lacks p t → Lacks q t → Lacks (λ b. p b || q b) t
lacks_both p q [] h k = tt
lacks_both p q (b ∷ t) h k = rw h k

-- the same with a test that agrees
abbrev pub stops_as : {V : Type 0} (L : List ℕ → V → Type 0) (next other : ℕ → Bool)
    (text left : List ℕ) → ((b : ℕ) → other b ≡ next b) → Stops L next text left
    → Stops L other text left
stops_as L next other text left e s = record {
  prefix = s.prefix;
  split = s.split;
  followed = record {
    viable = s.followed.viable;
    may = λ b h. s.followed.may b (sym (e b) ∙ h);
    only = λ b c. e b ∙ s.followed.only b c;
  };
  blocked = lacks_as left s.blocked;
}
  where
    lacks_as : (t : List ℕ) → Lacks next t → Lacks other t
    lacks_as [] h = tt
    lacks_as (b ∷ t) h = e b ∙ h

pub reads_as : {V : Type 0} (L : List ℕ → V → Type 0) (next other : ℕ → Bool) (text : List ℕ)
    (v : V) (left : List ℕ) → ((b : ℕ) → other b ≡ next b) → Reads L next text v left
    → Reads L other text v left
reads_as L next other text v left e r =
    record { stops = stops_as L next other text left e r.stops; spelled = r.spelled }

pub refuses_as : {V : Type 0} (L : List ℕ → V → Type 0) (next other : ℕ → Bool)
    (text left : List ℕ) → ((b : ℕ) → other b ≡ next b) → Refuses L next text left
    → Refuses L other text left
refuses_as L next other text left e r =
    record { stops = stops_as L next other text left e r.stops; unspelled = r.unspelled }

-- two exact tests at one prefix
pub same_lacks : {V : Type 0} (L : List ℕ → V → Type 0) (next other : ℕ → Bool) (p t : List ℕ)
    → IsFollowed L next p → IsFollowed L other p → Lacks next t → Lacks other t
same_lacks L next other p [] f g n = tt
same_lacks L next other p (b ∷ t) f g n = by (other b) refl
  where
    by : (x : Bool) → other b ≡ x → other b ≡ false
    by false e = e
    by true e = let k = f.only b (g.may b e) in absurd cc

-- nothing was read, if as much is left
pub none_read : (at prefix left : List ℕ) → at ≡ prefix ++ left → length left ≡ length at
    → prefix ≡ []
none_read at [] left e k = refl
none_read at (c ∷ prefix) left e k =
    absurd (let f = ap length e in let g = length-append (c ∷ prefix) left in omega arith)

pub all_left : (text prefix left : List ℕ) → text ≡ prefix ++ left → length left ≡ length text
    → left ≡ text
all_left text prefix left e k =
    sym (e ∙ ap (λ z. z ++ left) (none_read text prefix left e k))

pub some_left : (text prefix left : List ℕ) → text ≡ prefix ++ left → length left ≢ length text
    → prefix ≢ []
some_left text prefix left e n z = n (sym (ap length (e ∙ ap (λ q. q ++ left) z)))

-- then the text does not begin as texts of L do
pub unread : {V : Type 0} (L : List ℕ → V → Type 0) (next begin : ℕ → Bool) (text left : List ℕ)
    → Refuses L next text left → length left ≡ length text → IsFollowed L begin []
    → Lacks begin text
unread L next begin text left r k f =
    let z : r.stops.prefix ≡ [] = none_read text r.stops.prefix left r.stops.split k in
    same_lacks L next begin [] text (subst (IsFollowed L next) z r.stops.followed) f
    (subst (Lacks next) (all_left text r.stops.prefix left r.stops.split k) r.stops.blocked)

-- something was read, so not all is left
pub read_some : (text p rest q left : List ℕ) → text ≡ p ++ rest → rest ≡ q ++ left → p ≢ []
    → left ≡ text → ⊥
read_some text [] rest q left e f n same = n refl
read_some text (c ∷ p) rest q left e f n same =
    let i = ap length e in
    let j = ap length f in
    let k = ap length same in
    let l = length-append (c ∷ p) rest in
    let m = length-append q left in
    omega arith

-- the empty text has no parts but empty ones
pub none_left : (m s : List ℕ) → [] ≡ m ++ s → m ≡ []
none_left [] s e = refl
none_left (c ∷ m) s e = absurd (cons_nil c _ (sym e))

-- a text of L that the byte c begins, seen after this byte
abbrev pub Peeled : {V : Type 0} → (List ℕ → V → Type 0) → (ℕ → Bool) → ℕ → List ℕ → List ℕ → List ℕ → Type 0
Peeled L next c more prefix left =
    (q : List ℕ) × (prefix ≡ c ∷ q) × (more ≡ q ++ left) × IsFollowed (Past (c ∷ []) L) next q

pub peel_followed : {V : Type 0} (L : List ℕ → V → Type 0) (next : ℕ → Bool) (c : ℕ) (q : List ℕ)
    → IsFollowed L next (c ∷ q) → IsFollowed (Past (c ∷ []) L) next q
peel_followed L next c q f = record { viable = f.viable; may = f.may; only = f.only }

pub peel : {V : Type 0} (L : List ℕ → V → Type 0) (next : ℕ → Bool) (c : ℕ)
    (more prefix left : List ℕ) → Continues L (c ∷ []) → c ∷ more ≡ prefix ++ left
    → IsFollowed L next prefix → Lacks next left → Peeled L next c more prefix left
peel L next c more [] left v e f b = absurd (by left e b)
  where
    by : (left : List ℕ) → c ∷ more ≡ left → Lacks next left → ⊥
    by [] e b = cons_nil c more e
    by (d ∷ left) e b =
        let same : c ≡ d = heads c d more left e in
        let y = f.only c v in
        let n : next d ≡ false = b in
        cc
peel L next c more (d ∷ q) left v e f b =
    let same : d ≡ c = sym (heads c d more _ e) in (
      q,
      ap (λ x. x ∷ q) same,
      tails c d more _ e,
      peel_followed L next c q (subst (λ x. IsFollowed L next (x ∷ q)) same f),
    )

-- a text that begins with a byte that begins a text of L, seen after this byte
pub peel_reads : {V : Type 0} (L : List ℕ → V → Type 0) (next : ℕ → Bool) (c : ℕ)
    (more : List ℕ) (v : V) (left : List ℕ) → Continues L (c ∷ [])
    → Reads L next (c ∷ more) v left → Reads (Past (c ∷ []) L) next more v left
peel_reads L next c more v left b r =
    let k = peel L next c more r.stops.prefix left b r.stops.split r.stops.followed r.stops.blocked in
    record {
      stops = record { prefix = k.0; split = k.2; followed = k.3; blocked = r.stops.blocked };
      spelled = subst (λ t. L t v) k.1 r.spelled;
    }

pub peel_refuses : {V : Type 0} (L : List ℕ → V → Type 0) (next : ℕ → Bool) (c : ℕ)
    (more left : List ℕ) → Continues L (c ∷ []) → Refuses L next (c ∷ more) left
    → Refuses (Past (c ∷ []) L) next more left
peel_refuses L next c more left b r =
    let k = peel L next c more r.stops.prefix left b r.stops.split r.stops.followed r.stops.blocked in
    record {
      stops = record { prefix = k.0; split = k.2; followed = k.3; blocked = r.stops.blocked };
      unspelled = λ v h. r.unspelled v (subst (λ t. L t v) (sym k.1) h);
    }

module _ {V W : Type 0} (L : List ℕ → V → Type 0) (R : List ℕ → W → Type 0) (F : ℕ → Bool)
    (apart : Apart L F) (first : (t : List ℕ) (w : W) → R t w → FirstIs (λ b. F b ≡ true) t) where
  -- two readings of one text agree on where the text of L ends
  pub same_cut : (p u a s : List ℕ) (v x : V) → L p v → L a x → FirstIs (λ b. F b ≡ true) u
      → FirstIs (λ b. F b ≡ true) s → p ++ u ≡ a ++ s → SameSplit p u a s
  same_cut p u a s v x h k f g e =
      let l : Longer p u a s = cut L F apart p u a s x (continues_itself L p v h) k g e in
      by l.more l.part l.rest
    where
      by : (m : List ℕ) → a ≡ p ++ m → u ≡ m ++ s → SameSplit p u a s
      by [] i j = record { part = sym (i ∙ append-nil p); rest = j }
      by (c ∷ m) i j =
          absurd (apart p v c h (subst (FirstIs (λ b. F b ≡ true)) j f)
          (continues_before L (p ++ c ∷ []) m
          (subst (Continues L) (i ∙ sym (append_assoc p (c ∷ []) m)) (continues_itself L a x k))))

  -- a byte after a prefix of a text of L goes on with it, or ends it and begins one of R
  pub next_byte : (p : List ℕ) (b : ℕ) (u : List ℕ) (v : V × W) → Continues L p
      → Then L R ((p ++ b ∷ []) ++ u) v
      → Continues L (p ++ b ∷ []) ⊎ (L p v.0 × R (b ∷ u) v.1)
  next_byte p b u v c h =
      let l : Longer p (b ∷ u) h.0 h.1 =
      cut L F apart p (b ∷ u) h.0 h.1 v.0 c h.3 (first h.1 v.1 h.4)
      (sym (append_assoc p (b ∷ []) u) ∙ h.2) in
      by l.more l.part l.rest
    where
      by : (m : List ℕ) → h.0 ≡ p ++ m → b ∷ u ≡ m ++ h.1
          → Continues L (p ++ b ∷ []) ⊎ (L p v.0 × R (b ∷ u) v.1)
      by [] i j = inr (
        subst (λ t. L t v.0) (i ∙ append-nil p) h.3,
        subst (λ t. R t v.1) (sym j) h.4,
      )
      by (d ∷ m) i j =
          let same : d ≡ b = sym (heads b d u _ j) in
          inl (
            m,
            v.0,
            subst (λ t. L t v.0)
                (i ∙ (ap (λ x. p ++ x ∷ m) same ∙ sym (append_assoc p (b ∷ []) m))) h.3,
          )

  -- a prefix of L, or a text of it, is one of the sequence
  pub then_continues : Continues R [] → (p : List ℕ) → Continues L p → Continues (Then L R) p
  then_continues some p h = (
    h.0 ++ some.0,
    (h.1, some.1),
    (p ++ h.0, some.0, sym (append_assoc p h.0 some.0), h.2, some.2),
  )

  pub then_begins : (p : List ℕ) (v : V) (q : List ℕ) → L p v → Continues R q
      → Continues (Then L R) (p ++ q)
  then_begins p v q h k = (k.0, (v, k.1), (p, q ++ k.0, append_assoc p q k.0, h, k.2))

  -- the text goes wrong in L
  pub refused_followed : (next : ℕ → Bool) (p : List ℕ) → Continues R [] → IsFollowed L next p
      → ((x : V) → L p x → ⊥) → IsFollowed (Then L R) next p
  refused_followed next p some f n = record {
    viable = then_continues some p f.viable;
    may = λ b h. then_continues some (p ++ b ∷ []) (f.may b h);
    only = λ b c. elim (next_byte p b c.0 c.1 f.viable c.2) [
      | inl k ↦ f.only b k
      | inr k ↦ absurd (n c.1.0 k.0)
    ];
  }

  pub then_refuses : (next : ℕ → Bool) (text left : List ℕ) → Continues R []
      → Refuses L next text left → Refuses (Then L R) next text left
  then_refuses next text left some r = record {
    stops = record {
      prefix = r.stops.prefix;
      split = r.stops.split;
      followed = refused_followed next r.stops.prefix some r.stops.followed r.unspelled;
      blocked = r.stops.blocked;
    };
    unspelled = λ v h. none v h;
  }
    where
      none : (v : V × W) → Then L R r.stops.prefix v → ⊥
      none v h =
          let l : Longer r.stops.prefix [] h.0 h.1 =
          cut L F apart r.stops.prefix [] h.0 h.1 v.0 r.stops.followed.viable h.3 (first h.1 v.1 h.4)
          (append-nil r.stops.prefix ∙ h.2) in
          let m : l.more ≡ [] = none_left l.more h.1 l.rest in
          r.unspelled v.0 (subst (λ t. L t v.0)
          (l.part ∙ (ap (λ x. r.stops.prefix ++ x) m ∙ append-nil r.stops.prefix)) h.3)

  -- a text of L ends, and then a text of R may begin
  pub ended_followed : (next starts : ℕ → Bool) (p : List ℕ) (v : V) → L p v → IsFollowed L next p
      → IsFollowed R starts [] → IsFollowed (Then L R) (λ b. next b || starts b) p
  ended_followed next starts p v h f g = record {
    viable = then_continues g.viable p f.viable;
    may = λ b k. elim (or_cases (next b) (starts b) k) [
      | inl i ↦ then_continues g.viable (p ++ b ∷ []) (f.may b i)
      | inr i ↦ then_begins p v (b ∷ []) h (g.may b i)
    ];
    only = λ b c. elim (next_byte p b c.0 c.1 f.viable c.2) [
      | inl k ↦ or_left (next b) (starts b) (f.only b k)
      | inr k ↦ or_right (next b) (starts b) (g.only b (c.0, c.1.1, k.1))
    ];
  }

  abbrev ended_stops : (next starts : ℕ → Bool) (text : List ℕ) (v : V) (left : List ℕ)
      → Reads L next text v left → IsFollowed R starts [] → Lacks starts left
      → Stops (Then L R) (λ b. next b || starts b) text left
  ended_stops next starts text v left r g n = record {
    prefix = r.stops.prefix;
    split = r.stops.split;
    followed = ended_followed next starts r.stops.prefix v r.spelled r.stops.followed g;
    blocked = lacks_both next starts left r.stops.blocked n;
  }

  -- and the sequence ends, since the empty text is one of R
  pub then_ends : (next starts : ℕ → Bool) (text : List ℕ) (v : V) (w : W) (left : List ℕ)
      → Reads L next text v left → IsFollowed R starts [] → Lacks starts left → R [] w
      → Reads (Then L R) (λ b. next b || starts b) text (v, w) left
  then_ends next starts text v w left r g n h = record {
    stops = ended_stops next starts text v left r g n;
    spelled = (r.stops.prefix, [], sym (append-nil r.stops.prefix), r.spelled, h);
  }

  -- or goes wrong, since it is none
  pub then_stuck : (next starts : ℕ → Bool) (text : List ℕ) (v : V) (left : List ℕ)
      → Reads L next text v left → IsFollowed R starts [] → Lacks starts left
      → ((w : W) → R [] w → ⊥)
      → Refuses (Then L R) (λ b. next b || starts b) text left
  then_stuck next starts text v left r g n h = record {
    stops = ended_stops next starts text v left r g n;
    unspelled = λ x k.
        let s = same_cut r.stops.prefix [] k.0 k.1 v x.0 r.spelled k.3 tt (first k.1 x.1 k.4)
        (append-nil r.stops.prefix ∙ k.2) in
        h x.1 (subst (λ t. R t x.1) (sym s.rest) k.4);
  }

  -- after a text of L and a byte that can't continue it comes the rest of a text of R
  pub then_texts : (p : List ℕ) (v : V) (c : ℕ) → L p v → F c ≡ true
      → SameTexts (Past (c ∷ []) R) (Past (p ++ c ∷ []) (Then L R)) (λ w. (v, w))
  then_texts p v c h f = record {
    up = λ t w k. (p, c ∷ t, append_assoc p (c ∷ []) t, h, k);
    down = λ t x k.
        let s = same_cut p (c ∷ t) k.0 k.1 v x.0 h k.3 f (first k.1 x.1 k.4)
        (sym (append_assoc p (c ∷ []) t) ∙ k.2) in
        (x.1, subst (λ y. R y x.1) (sym s.rest) k.4);
  }

  whole_text : (p t : List ℕ) (c : ℕ) (text rest : List ℕ) → text ≡ p ++ rest → rest ≡ c ∷ t
      → text ≡ (p ++ c ∷ []) ++ t
  whole_text p t c text rest e f = e ∙ (ap (λ x. p ++ x) f ∙ sym (append_assoc p (c ∷ []) t))

  -- a text of L, and then a text of R that begins with such a byte
  pub then_reads : (before next : ℕ → Bool) (text : List ℕ) (v : V) (rest : List ℕ) (c : ℕ)
      (more : List ℕ) (w : W) (left : List ℕ) → Reads L before text v rest → rest ≡ c ∷ more
      → F c ≡ true → Continues R (c ∷ []) → Reads R next rest w left
      → Reads (Then L R) next text (v, w) left
  then_reads before next text v rest c more w left r e f b k =
      past_reads (Then L R) next (r.stops.prefix ++ c ∷ []) more text (v, w) left
      (whole_text r.stops.prefix more c text rest r.stops.split e)
      (same_reads _ _ _ (then_texts r.stops.prefix v c r.spelled f) next more w left
      (peel_reads R next c more w left b (subst (λ t. Reads R next t w left) e k)))

  pub then_refuses_after : (before next : ℕ → Bool) (text : List ℕ) (v : V) (rest : List ℕ) (c : ℕ)
      (more left : List ℕ) → Reads L before text v rest → rest ≡ c ∷ more
      → F c ≡ true → Continues R (c ∷ []) → Refuses R next rest left
      → Refuses (Then L R) next text left
  then_refuses_after before next text v rest c more left r e f b k =
      past_refuses (Then L R) next (r.stops.prefix ++ c ∷ []) more text left
      (whole_text r.stops.prefix more c text rest r.stops.split e)
      (same_refuses _ _ _ (then_texts r.stops.prefix v c r.spelled f) next more left
      (peel_refuses R next c more left b (subst (λ t. Refuses R next t left) e k)))

  -- what ends a text of R and begins none ends the sequence
  pub then_apart : (G : ℕ → Bool) → ((b : ℕ) → G b ≡ true → F b ≡ true) → Apart R G
      → Apart (Then L R) G
  then_apart G within apart_after t v b h g c =
      let moved : h.0 ++ ((h.1 ++ b ∷ []) ++ c.0) ≡ c.2.0 ++ c.2.1 =
      sym (append_assoc h.0 (h.1 ++ b ∷ []) c.0)
      ∙ (ap (λ x. x ++ c.0) (sym (append_assoc h.0 h.1 (b ∷ [])))
      ∙ (ap (λ x. (x ++ b ∷ []) ++ c.0) (sym h.2) ∙ c.2.2)) in
      let s = same_cut h.0 ((h.1 ++ b ∷ []) ++ c.0) c.2.0 c.2.1 v.0 c.1.0 h.3 c.2.3
      (starts h.1 (first h.1 v.1 h.4)) (first c.2.1 c.1.1 c.2.4) moved in
      apart_after h.1 v.1 b h.4 g (c.0, c.1.1, subst (λ y. R y c.1.1) (sym s.rest) c.2.4)
    where
      starts : (s : List ℕ) → FirstIs (λ x. F x ≡ true) s
          → FirstIs (λ x. F x ≡ true) ((s ++ b ∷ []) ++ c.0)
      starts [] f = within b g
      starts (d ∷ s) f = f
