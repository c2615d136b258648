-- The laws of the words in specs/Machine/Language.
use Rattle.std.specs.Option.{option_and_then, option_map, option_or}
use Rattle.std.proofs.Common.{◌≡◌, ℕ, Bool, true, false, ◌==◌, List, [], ◌∷◌, ◌++◌, Option, Some}
use Rattle.std.proofs.Common.{None, ⊎_elim, refl, sym, ap, ◌∙◌, subst, ◌↔◌, ◌⊎◌, inl, inr, eqb-true}
use Rattle.std.proofs.Common.{eq-eqb}
use Rattle.sf_value.specs.Grammar.Words.{allow, Every}
use Rattle.sf_parse.specs.Machine.Language.{Then, MapValues, Either, After, Nothing, Past, onward}
use Rattle.sf_parse.specs.Machine.Language.{Where, only, Reads}
use Rattle.sf_value.proofs.Words.{allow_cases, option_or_cases}

-- A language that is the same text by text is read alike.
pub reads_iff : {S V : Type 0} {Good : S → Type 0} {Residual : S → List ℕ → V → Type 0}
    {L M : List ℕ
    → V → Type 0} {next : ℕ → Option S} {end : Option V}
    → ((t : List ℕ) (v : V) → L t v ↔ M t v) → Reads S V Good Residual L next end
    → Reads S V Good Residual M next end
reads_iff e r = record {
  taken = λ b u v m. r.taken b u v ((e (b ∷ u) v).1 m);
  gives = λ b u v s n h. (e (b ∷ u) v).0 (r.gives b u v s n h);
  good = r.good;
  ends = λ v m. r.ends v ((e [] v).1 m);
  ended = λ v h. (e [] v).0 (r.ended v h);
}

-- how a step goes on
abbrev pub Onward : {S T X : Type 0} → (S → T) → Option S → Option X → (X → Option T) → T → Type 0
Onward {S = S} {X = X} into a end after t = ((s : S) × (a ≡ Some s) × (t ≡ into s)) ⊎ ((x : X)
    × (a ≡ None) × (end ≡ Some x) × (after x ≡ Some t))

pub onward_cases : {S T X : Type 0} (into : S → T) (a : Option S) (end : Option X) (after : X
    → Option T) (t : T)
    → onward into a end after ≡ Some t → Onward into a end after t
onward_cases into (Some s) end after t e = inl (s, refl, cc)
onward_cases into None (Some x) after t e = inr (x, refl, refl, e)
onward_cases into None None after t e = absurd cc

onward_some : {S T X : Type 0} (into : S → T) (a : Option S) (end : Option X) (after : X
    → Option T) (s : S)
    → a ≡ Some s → onward into a end after ≡ Some (into s)
onward_some into a end after s e = rw e refl

pub onward_end : {S T X : Type 0} (into : S → T) (a : Option S) (end : Option X) (after : X
    → Option T) (x : X)
    → a ≡ None → end ≡ Some x → onward into a end after ≡ after x
onward_end into a end after x e h = rw (e, h) refl

pub is_none : {S : Type 0} (a : Option S) → ((s : S) → a ≡ Some s → ⊥) → a ≡ None
is_none None h = refl
is_none (Some s) h = absurd (h s refl)

pub and_then_cases : {X Y : Type 0} (o : Option X) (f : X → Option Y) (y : Y)
    → option_and_then f o ≡ Some y → (x : X) × (o ≡ Some x) × (f x ≡ Some y)
and_then_cases (Some x) f y e = (x, refl, e)
and_then_cases None f y e = absurd cc

-- A prefix read by A and a suffix read by B are read one after the other, where no byte that A goes
-- on with begins the suffix.
module _ {S T X V : Type 0} {GoodS : S → Type 0} {GoodT : T → Type 0} {ResidualS : S → List ℕ → X
    → Type 0} {ResidualT : T → List ℕ → V → Type 0} (into : S → T) {A : List ℕ → X → Type 0} {B : X
    → List ℕ → V → Type 0} {nextA : ℕ → Option S} {endA : Option X} {nextB : X → ℕ
    → Option T} {endB : X → Option V} where
  pub reads_then : ((s : S) → GoodS s → GoodT (into s))
      → ((s : S) (t : List ℕ) (v : V) → Then (ResidualS s) B t v ↔ ResidualT (into s) t v)
      → Reads S X GoodS ResidualS A nextA endA
      → ((x : X) → endA ≡ Some x → Reads T V GoodT ResidualT (B x) (nextB x) (endB x))
      → ((x : X) (b : ℕ) (s : S) (t : T) → endA ≡ Some x → nextA b ≡ Some s → nextB x b ≡ Some t
      → ⊥)
      → Reads T V GoodT ResidualT (Then A B) (λ b. onward into (nextA b) endA (λ x. nextB x b))
      (option_and_then endB endA)
  reads_then good_into rest_into ra rb apart = record {
    taken = λ b u v h. first b u v h.0 h.1 h.2 h.3 h.4 h.5;
    gives = λ b u v t n h. given b u v t h
        (onward_cases into (nextA b) endA (λ x. nextB x b) t n);
    good = λ b t n. goods b t (onward_cases into (nextA b) endA (λ x. nextB x b) t n);
    ends = λ v h. last v h.0 h.1 h.2 h.3 h.4 h.5;
    ended = λ v e. let c = and_then_cases endA endB v e in
        (c.0, [], [], refl, ra.ended c.0 c.1, (rb c.0 c.1).ended v c.2);
  }
    where
      first : (b : ℕ) (u : List ℕ) (v : V) (x : X) (prefix suffix : List ℕ) → b ∷ u ≡ prefix
          ++ suffix
          → A prefix x → B x suffix v
          → (t : T) × (onward into (nextA b) endA (λ x. nextB x b) ≡ Some t) × ResidualT t u v
      first b u v x [] suffix e a r =
          let e' = ra.ends x a in
          let r' = subst (λ y. B x y v) (sym e) r in
          let k = (rb x e').taken b u v r' in
          let no = is_none (nextA b) (λ s n. apart x b s k.0 e' n k.1) in
          (k.0, onward_end into (nextA b) endA (λ x. nextB x b) x no e' ∙ k.1, k.2)
      first b u v x (c ∷ prefix) suffix e a r =
          let eb : b ≡ c = cc in
          let eu : u ≡ prefix ++ suffix = cc in
          let k = ra.taken b prefix x (subst (λ y. A (y ∷ prefix) x) (sym eb) a) in (
            into k.0,
            onward_some into (nextA b) endA (λ x. nextB x b) k.0 k.1,
            (rest_into k.0 u v).0 (x, prefix, suffix, eu, k.2, r),
          )

      given : (b : ℕ) (u : List ℕ) (v : V) (t : T) → ResidualT t u v
          → Onward into (nextA b) endA (λ x. nextB x b) t → Then A B (b ∷ u) v
      given b u v t h (inl o) =
          let k = (rest_into o.0 u v).1 (subst (λ y. ResidualT y u v) o.2 h) in
          (k.0, b ∷ k.1, k.2, ap (λ y. b ∷ y) k.3, ra.gives b k.1 k.0 o.0 o.1 k.4, k.5)
      given b u v t h (inr o) = (
        o.0,
        [],
        b ∷ u,
        refl,
        ra.ended o.0 o.2,
        (rb o.0 o.2).gives b u v t o.3 h,
      )

      goods : (b : ℕ) (t : T) → Onward into (nextA b) endA (λ x. nextB x b) t → GoodT t
      goods b t (inl o) = subst GoodT (sym o.2) (good_into o.0 (ra.good b o.0 o.1))
      goods b t (inr o) = (rb o.0 o.2).good b t o.3

      last : (v : V) (x : X) (prefix suffix : List ℕ) → [] ≡ prefix ++ suffix → A prefix x
          → B x suffix v
          → option_and_then endB endA ≡ Some v
      last v x [] suffix e a r = rw (ra.ends x a)
          ((rb x (ra.ends x a)).ends v (subst (λ y. B x y v) (sym e) r))
      last v x (c ∷ prefix) suffix e a r = absurd cc

pub map_cases : {X Y : Type 0} (f : X → Y) (o : Option X) (y : Y) → option_map f o ≡ Some y
    → (x : X) × (o ≡ Some x) × (y ≡ f x)
map_cases f (Some x) y e = (x, refl, cc)
map_cases f None y e = absurd cc

pub reads_mapped : {S T X V : Type 0} {GoodS : S → Type 0} {GoodT : T → Type 0}
    {ResidualS : S → List ℕ
    → X → Type 0} {ResidualT : T → List ℕ → V → Type 0} (into : S → T) (f : X → V) {A : List ℕ → X
    → Type 0} {next : ℕ → Option S} {end : Option X}
    → ((s : S) → GoodS s → GoodT (into s))
    → ((s : S) (t : List ℕ) (v : V) → MapValues f (ResidualS s) t v ↔ ResidualT (into s) t v)
    → Reads S X GoodS ResidualS A next end
    → Reads T V GoodT ResidualT (MapValues f A) (λ b. option_map into (next b)) (option_map f end)
reads_mapped {GoodT = GoodT} {ResidualT = ResidualT} into f {A = A} {next = next} {end = end}
    good_into
    rest_into ra = record {
      taken = λ b u v h. let k = ra.taken b u h.0 h.1 in
          (into k.0, rw k.1 refl, (rest_into k.0 u v).0 (h.0, k.2, h.2));
      gives = λ b u v t n h. let c = map_cases into (next b) t n in
          let k = (rest_into c.0 u v).1 (subst (λ y. ResidualT y u v) c.2 h) in
          (k.0, ra.gives b u k.0 c.0 c.1 k.1, k.2);
      good = λ b t n. let c = map_cases into (next b) t n in
          subst GoodT (sym c.2) (good_into c.0 (ra.good b c.0 c.1));
      ends = λ v h. rw (ra.ends h.0 h.1) (ap Some (sym h.2));
      ended = λ v e. let c = map_cases f end v e in (c.0, ra.ended c.0 c.1, c.2);
    }

pub reads_either : {S V : Type 0} {Good : S → Type 0} {Residual : S → List ℕ → V → Type 0}
    {A B : List ℕ
    → V → Type 0} {nextA nextB : ℕ → Option S} {endA endB : Option V}
    → Reads S V Good Residual A nextA endA → Reads S V Good Residual B nextB endB
    → ((b : ℕ) (s t : S) → nextA b ≡ Some s → nextB b ≡ Some t → ⊥)
    → ((v w : V) → endA ≡ Some v → endB ≡ Some w → ⊥)
    → Reads S V Good Residual (Either A B) (λ b. option_or (nextA b) (nextB b))
    (option_or endA endB)
reads_either {S = S} {V = V} {Residual = Residual} {A = A} {B = B} {nextA = nextA} {nextB = nextB}
    {endA = endA} {endB = endB} ra rb apart apart_ends = record {
      taken = λ b u v. ⊎_elim (left b u v) (right b u v);
      gives = λ b u v s n h. ⊎_elim (λ e. inl (ra.gives b u v s e h))
          (λ e. inr (rb.gives b u v s e.1 h)) (option_or_cases (nextA b) (nextB b) s n);
      good = λ b s n. ⊎_elim (λ e. ra.good b s e) (λ e. rb.good b s e.1)
          (option_or_cases (nextA b) (nextB b) s n);
      ends = λ v. ⊎_elim (λ h. rw (ra.ends v h) refl) (λ h. let e = rb.ends v h in
          rw (is_none endA (λ w k. apart_ends w v k e), e) refl);
      ended = λ v e. ⊎_elim (λ k. inl (ra.ended v k)) (λ k. inr (rb.ended v k.1))
          (option_or_cases endA endB v e);
    }
  where
    left : (b : ℕ) (u : List ℕ) (v : V) → A (b ∷ u) v
        → (s : S) × (option_or (nextA b) (nextB b) ≡ Some s) × Residual s u v
    left b u v h = let k = ra.taken b u v h in (k.0, rw k.1 refl, k.2)

    right : (b : ℕ) (u : List ℕ) (v : V) → B (b ∷ u) v
        → (s : S) × (option_or (nextA b) (nextB b) ≡ Some s) × Residual s u v
    right b u v h = let k = rb.taken b u v h in
        (k.0, rw (is_none (nextA b) (λ s e. apart b s k.0 e k.1), k.1) refl, k.2)

pub reads_after : {S V : Type 0} {Good : S → Type 0} {Residual : S → List ℕ → V
    → Type 0} (c : ℕ) (s : S)
    → Good s → Reads S V Good Residual (After c (Residual s)) (λ b. allow (b == c) s) None
reads_after {Good = Good} {Residual = Residual} c s g = record {
  taken = λ b u v h. (
    s,
    (let e : b ≡ c = cc (h.1) in
        rw (eq-eqb b c e) refl),
    subst (λ y. Residual s y v) (let e : h.0 ≡ u = cc (h.1) in e) h.2,
  );
  gives = λ b u v t n h. let k = allow_cases (b == c) s t n in
      (u, ap (λ y. y ∷ u) (eqb-true b c k.0), subst (λ y. Residual y u v) k.1 h);
  good = λ b t n. let k = allow_cases (b == c) s t n in subst Good (sym k.1) g;
  ends = λ v h. absurd (cc (h.1));
  ended = λ v e. absurd cc;
}

pub reads_nothing : {S V : Type 0} {Good : S → Type 0} {Residual : S → List ℕ → V → Type 0} (x : V)
    → Reads S V Good Residual (Nothing x) (λ b. None) (Some x)
reads_nothing x = record {
  taken = λ b u v h. absurd (cc (h.0));
  gives = λ b u v t n h. absurd cc;
  good = λ b t n. absurd cc;
  ends = λ v h. ap Some (sym h.1);
  ended = λ v e. (refl, cc);
}

past_more : {V : Type 0} (p : ℕ → Bool) (A : List ℕ → V → Type 0) (b : ℕ) (u : List ℕ) (v : V)
    → p b ≡ true → Past p A u v → Past p A (b ∷ u) v
past_more p A b u v e h = (b ∷ h.0, h.1, ap (λ y. b ∷ y) h.2, (e, h.3), h.4)

-- bytes that pass the test, then A, none of whose texts begins with such a byte
pub reads_past : {S V : Type 0} {Good : S → Type 0} {Residual : S → List ℕ → V → Type 0} (p : ℕ
    → Bool) (s : S) {A : List ℕ → V → Type 0} {next : ℕ → Option S} {end : Option V}
    → Good s → ((t : List ℕ) (v : V) → Past p A t v ↔ Residual s t v)
    → ((b : ℕ) (t : S) → p b ≡ true → next b ≡ Some t → ⊥) → Reads S V Good Residual A next end
    → Reads S V Good Residual (Past p A) (λ b. option_or (allow (p b) s) (next b)) end
reads_past {S = S} {V = V} {Good = Good} {Residual = Residual} p s {A = A} {next = next} {end = end}
    g same
    apart ra = record {
      taken = λ b u v h. first b u v h.0 h.1 h.2 h.3 h.4;
      gives = λ b u v t n h. ⊎_elim
          (λ e. let k = allow_cases (p b) s t e in
          past_more p A b u v k.0 ((same u v).1 (subst (λ y. Residual y u v) k.1 h)))
          (λ e. ([], b ∷ u, refl, tt, ra.gives b u v t e.1 h))
          (option_or_cases (allow (p b) s) (next b) t n);
      good = λ b t n. ⊎_elim (λ e. subst Good (sym (allow_cases (p b) s t e).1) g)
          (λ e. ra.good b t e.1) (option_or_cases (allow (p b) s) (next b) t n);
      ends = λ v h. last v h.0 h.1 h.2 h.3 h.4;
      ended = λ v e. ([], [], refl, tt, ra.ended v e);
    }
  where
    first : (b : ℕ) (u : List ℕ) (v : V) (prefix suffix : List ℕ) → b ∷ u ≡ prefix ++ suffix
        → Every p prefix → A suffix v
        → (t : S) × (option_or (allow (p b) s) (next b) ≡ Some t) × Residual t u v
    first b u v [] suffix e f a =
        let k = ra.taken b u v (subst (λ y. A y v) (sym e) a) in (
          k.0,
          rw (is_none (allow (p b) s) (λ t n. apart b k.0 (allow_cases (p b) s t n).0 k.1)) k.1,
          k.2,
        )
    first b u v (c ∷ prefix) suffix e f a =
        let eb : c ≡ b = cc in
        let pb = ap p (sym eb) ∙ f.0 in (
          s,
          rw pb refl,
          (same u v).0
              (prefix, suffix, (let eu : u ≡ prefix ++ suffix = cc in eu), f.1, a),
        )

    last : (v : V) (prefix suffix : List ℕ) → [] ≡ prefix ++ suffix → Every p prefix → A suffix v
        → end ≡ Some v
    last v [] suffix e f a = ra.ends v (subst (λ y. A y v) (sym e) a)
    last v (c ∷ prefix) suffix e f a = absurd cc

-- the same machine as a part of a larger one
pub reads_into : {S T V : Type 0} {GoodS : S → Type 0} {GoodT : T → Type 0}
    {ResidualS : S → List ℕ → V
    → Type 0} {ResidualT : T → List ℕ → V → Type 0} (into : S → T) {A : List ℕ → V → Type 0}
    {next : ℕ
    → Option S} {end : Option V}
    → ((s : S) → GoodS s → GoodT (into s))
    → ((s : S) (t : List ℕ) (v : V) → ResidualS s t v ↔ ResidualT (into s) t v)
    → Reads S V GoodS ResidualS A next end
    → Reads T V GoodT ResidualT A (λ b. option_map into (next b)) end
reads_into {GoodT = GoodT} {ResidualT = ResidualT} into {next = next} good_into rest_into ra =
    record {
      taken = λ b u v h. let k = ra.taken b u v h in
          (into k.0, rw k.1 refl, (rest_into k.0 u v).0 k.2);
      gives = λ b u v t n h. let c = map_cases into (next b) t n in
          ra.gives b u v c.0 c.1 ((rest_into c.0 u v).1 (subst (λ y. ResidualT y u v) c.2 h));
      good = λ b t n. let c = map_cases into (next b) t n in
          subst GoodT (sym c.2) (good_into c.0 (ra.good b c.0 c.1));
      ends = ra.ends;
      ended = ra.ended;
    }

-- A prefix that isn't empty, and what B reads after it.
pub reads_first : {S T X V : Type 0} {GoodS : S → Type 0} {GoodT : T → Type 0}
    {ResidualS : S → List ℕ
    → X → Type 0} {ResidualT : T → List ℕ → V → Type 0} (into : S → T) {A : List ℕ → X → Type 0}
    {B : X
    → List ℕ → V → Type 0} {next : ℕ → Option S}
    → ((s : S) → GoodS s → GoodT (into s))
    → ((s : S) (t : List ℕ) (v : V) → Then (ResidualS s) B t v ↔ ResidualT (into s) t v)
    → Reads S X GoodS ResidualS A next None
    → Reads T V GoodT ResidualT (Then A B) (λ b. option_map into (next b)) None
reads_first {T = T} {X = X} {V = V} {GoodT = GoodT} {ResidualT = ResidualT} into {A = A} {B = B}
    {next = next} good_into rest_into ra = record {
      taken = λ b u v h. first b u v h.0 h.1 h.2 h.3 h.4 h.5;
      gives = λ b u v t n h. let c = map_cases into (next b) t n in
          let k = (rest_into c.0 u v).1 (subst (λ y. ResidualT y u v) c.2 h) in
          (k.0, b ∷ k.1, k.2, ap (λ y. b ∷ y) k.3, ra.gives b k.1 k.0 c.0 c.1 k.4, k.5);
      good = λ b t n. let c = map_cases into (next b) t n in
          subst GoodT (sym c.2) (good_into c.0 (ra.good b c.0 c.1));
      ends = λ v h. last v h.0 h.1 h.2 h.3 h.4;
      ended = λ v e. absurd cc;
    }
  where
    first : (b : ℕ) (u : List ℕ) (v : V) (x : X) (prefix suffix : List ℕ) → b ∷ u ≡ prefix ++ suffix
        → A prefix x → B x suffix v → (t : T) × (option_map into (next b) ≡ Some t)
        × ResidualT t u v
    first b u v x [] suffix e a r = absurd (no_end (ra.ends x a))
      where
        no_end : None ≡ Some x → ⊥
        no_end e = cc
    first b u v x (c ∷ prefix) suffix e a r =
        let eb : b ≡ c = cc in
        let eu : u ≡ prefix ++ suffix = cc in
        let k = ra.taken b prefix x (subst (λ y. A (y ∷ prefix) x) (sym eb) a) in
        (into k.0, rw k.1 refl, (rest_into k.0 u v).0 (x, prefix, suffix, eu, k.2, r))

    last : (v : V) (x : X) (prefix suffix : List ℕ) → [] ≡ prefix ++ suffix → A prefix x → None
        ≡ Some v
    last v x [] suffix e a = absurd (let n : ⊥ = cc (ra.ends x a) in n)
    last v x (c ∷ prefix) suffix e a = absurd cc

-- another way to write the step
pub reads_as : {S V : Type 0} {Good : S → Type 0} {Residual : S → List ℕ → V → Type 0}
    {L : List ℕ → V
    → Type 0} {next other : ℕ → Option S} {end : Option V}
    → ((b : ℕ) → next b ≡ other b) → Reads S V Good Residual L next end
    → Reads S V Good Residual L other end
reads_as e r = record {
  taken = λ b u v h. let k = r.taken b u v h in (k.0, sym (e b) ∙ k.1, k.2);
  gives = λ b u v s n h. r.gives b u v s (e b ∙ n) h;
  good = λ b s n. r.good b s (e b ∙ n);
  ends = r.ends;
  ended = r.ended;
}

pub otherwise_none : {S : Type 0} (o : Option S) → option_or o None ≡ o
otherwise_none None = refl
otherwise_none (Some s) = refl

-- a byte and what follows it, or nothing
pub reads_maybe : {S V : Type 0} {Good : S → Type 0} {Residual : S → List ℕ → V
    → Type 0} (c : ℕ) (s : S) (x : V)
    → Good s
    → Reads S V Good Residual (Either (After c (Residual s)) (Nothing x)) (λ b. allow (b == c) s)
    (Some x)
reads_maybe c s x g = reads_as (λ b. otherwise_none (allow (b == c) s))
    (reads_either (reads_after c s g) (reads_nothing x) (λ b s t e n. cc) (λ v w e n. cc))

-- a language that there is where the test holds
pub reads_where : {S V : Type 0} {Good : S → Type 0} {Residual : S → List ℕ → V → Type 0}
    {A : List ℕ
    → V → Type 0} {next : ℕ → Option S} (c : Bool)
    → Reads S V Good Residual A next None
    → Reads S V Good Residual (Where c A) (λ b. only c (next b)) None
reads_where true r = record {
  taken = λ b u v h. r.taken b u v h.1;
  gives = λ b u v s n h. (refl, r.gives b u v s n h);
  good = r.good;
  ends = λ v h. r.ends v h.1;
  ended = λ v e. absurd cc;
}
reads_where false r = record {
  taken = λ b u v h. absurd (cc (h.0));
  gives = λ b u v s n h. absurd cc;
  good = λ b s n. absurd cc;
  ends = λ v h. absurd (cc (h.0));
  ended = λ v e. absurd cc;
}
