-- The runs of a set, one after another.
use Rattle.std.proofs.Common.{◌≡◌, ℕ, zero, suc, ◌+◌, ◌-◌, ◌<◌, ◌≤◌, ◌⊎◌, inl, inr, true, false}
use Rattle.std.proofs.Common.{List, [], ◌∷◌, refl, ap, ◌∙◌, arith, rules}
use Rattle.std.specs.Prelude.{◌==◌, ⊤}
use Rattle.std.proofs.lemmas.Bool.{cases_Bool}
use Rattle.sf_parse.specs.ByteSets.{is_in, HasNone, runs_with, runs_from}

-- the first of the runs does not begin below b
abbrev pub BeginsFrom : ℕ → List (ℕ × ℕ) → Type 0
BeginsFrom b [] = ⊤
BeginsFrom b (run ∷ runs) = b ≤ run.0

BeginsFrom-less : (a b : ℕ) (rs : List (ℕ × ℕ)) → a ≤ b → BeginsFrom b rs → BeginsFrom a rs
BeginsFrom-less a b [] h p = tt
BeginsFrom-less a b (r ∷ rs) h p = omega arith

BeginsFrom-runs_with : (b : ℕ) (rs : List (ℕ × ℕ)) → BeginsFrom b (runs_with b rs)
BeginsFrom-runs_with b [] = omega arith
BeginsFrom-runs_with b (r ∷ rs) =
    elim (cases_Bool (r.0 == suc b)) [
      | inl t ↦ rw t (omega arith)
      | inr f ↦ rw f (omega arith)
    ]

pub runs_begin : (set b n : ℕ) → BeginsFrom b (runs_from set b n)
unfolding runs_from
runs_begin set b zero = tt
runs_begin set b (suc n) =
    elim (cases_Bool (is_in set b)) [
      | inl t ↦ rw t (BeginsFrom-runs_with b (runs_from set (suc b) n))
      | inr f ↦ rw f (BeginsFrom-less b (suc b) _ (omega arith) (runs_begin set (suc b) n))
    ]

-- no bytes
pub runs-none : (set b : ℕ) → runs_from set b 0 ≡ []
unfolding runs_from
runs-none set b = refl

-- a byte that is not in the set
pub runs-out : (set b n : ℕ) → is_in set b ≡ false
    → runs_from set b (suc n) ≡ runs_from set (suc b) n
unfolding runs_from
runs-out set b n f = rw f refl

-- a byte that is in the set
pub runs-in : (set b n : ℕ) → is_in set b ≡ true
    → runs_from set b (suc n) ≡ runs_with b (runs_from set (suc b) n)
unfolding runs_from
runs-in set b n t = rw t refl

runs_with-apart : (b : ℕ) (rs : List (ℕ × ℕ)) → BeginsFrom (suc (suc b)) rs
    → runs_with b rs ≡ (b, b) ∷ rs
runs_with-apart b [] h = refl
runs_with-apart b (r ∷ rs) h =
    elim (cases_Bool (r.0 == suc b)) [
      | inl t ↦ (let e : r.0 ≡ suc b = search (rules, t) in absurd (omega arith))
      | inr f ↦ rw f refl
    ]

-- what follows a run begins above the byte after it, which is not in the set
behind : (set b n : ℕ) → (n ≡ 0) ⊎ (is_in set b ≡ false) → BeginsFrom (suc b) (runs_from set b n)
behind set b zero h = rw (runs-none set b) tt
behind set b (suc n) h =
    elim h [
      | inl e ↦ absurd (omega arith)
      | inr f ↦ rw (runs-out set b n f) (runs_begin set (suc b) n)
    ]

-- m + 1 bytes in the set and then none
pub runs-whole : (set b m n : ℕ) → ((k : ℕ) → b ≤ k → k ≤ b + m → is_in set k ≡ true)
    → (n ≡ 0) ⊎ (is_in set (suc (b + m)) ≡ false)
    → runs_from set b (suc (m + n)) ≡ (b, b + m) ∷ runs_from set (suc (b + m)) n
runs-whole set b zero n all stop =
    let e : b + 0 ≡ b = omega arith in
    let z : 0 + n ≡ n = omega arith in
    let here = all b (omega arith) (omega arith) in
    let after : (n ≡ 0) ⊎ (is_in set (suc b) ≡ false) = rw e at stop in
    rw (e, z, runs-in set b n here)
    (runs_with-apart b (runs_from set (suc b) n) (behind set (suc b) n after))
runs-whole set b (suc m) n all stop =
    let e : b + suc m ≡ suc b + m = omega arith in
    let s : suc m + n ≡ suc (m + n) = omega arith in
    let here = all b (omega arith) (omega arith) in
    let more : (k : ℕ) → suc b ≤ k → k ≤ suc b + m → is_in set k ≡ true =
    λ k h1 h2. all k (omega arith) (omega arith) in
    let later = runs-whole set (suc b) m n more (rw e at stop) in
    let same : (suc b == suc b) ≡ true = search rules in
    rw (e, s, runs-in set b (suc (m + n)) here, later, same) refl

-- the run from first to last, and what follows it
pub runs-next : (set first last : ℕ) → first ≤ last → last < 128
    → ((k : ℕ) → first ≤ k → k ≤ last → is_in set k ≡ true)
    → (last ≡ 127) ⊎ (is_in set (last + 1) ≡ false)
    → runs_from set first (128 - first) ≡ (first, last) ∷ runs_from set (last + 1) (128 - (last + 1))
runs-next set first last forward within all stop =
    let at : first + (last - first) ≡ last = omega arith in
    let size : suc ((last - first) + (128 - (last + 1))) ≡ 128 - first = omega arith in
    let next : suc last ≡ last + 1 = omega arith in
    let after : (128 - (last + 1) ≡ 0) ⊎ (is_in set (suc (first + (last - first))) ≡ false) =
    elim stop [ inl e ↦ inl (omega arith) | inr f ↦ inr (rw (at, next) f) ] in
    rw (size, at, next) at
    (runs-whole set first (last - first) (128 - (last + 1)) (λ k h1 h2. all k h1 (omega arith)) after)

-- a byte that is not in the set, of several
pub runs-skip : (set b : ℕ) → b < 128 → is_in set b ≡ false
    → runs_from set b (128 - b) ≡ runs_from set (b + 1) (128 - (b + 1))
runs-skip set b h f =
    let size : 128 - b ≡ suc (128 - (b + 1)) = omega arith in
    let next : b + 1 ≡ suc b = omega arith in
    rw (size, next) (runs-out set b _ f)

-- bytes that are not in the set, of several
pub runs-over : (set b c : ℕ) → b ≤ c → c ≤ 128 → HasNone set b c
    → runs_from set b (128 - b) ≡ runs_from set c (128 - c)
runs-over set b c up within none = by (c - b) b (omega arith) none
  where
    by : (d b : ℕ) → b + d ≡ c → HasNone set b c
        → runs_from set b (128 - b) ≡ runs_from set c (128 - c)
    by zero b e none = let same : b ≡ c = omega arith in ap (λ k. runs_from set k (128 - k)) same
    by (suc d) b e none =
        runs-skip set b (omega arith) (none b (omega arith) (omega arith))
        ∙ by d (b + 1) (omega arith) (λ k l u. none k (omega arith) u)
