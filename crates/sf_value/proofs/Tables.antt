-- Tests that are computed for each number below a bound.
use Rattle.std.proofs.Common.{◌≡◌, ℕ, zero, suc, ◌<◌, Bool, true, ◌&&◌, subst}
use Rattle.std.proofs.Common.{arith, ⊎_elim}
use Rattle.std.proofs.lemmas.Bool.{and_parts, cases_lt}

-- the test holds of each number below n
abbrev pub all_below : ℕ → (ℕ → Bool) → Bool
all_below zero p = true
all_below (suc n) p = p n && all_below n p

pub each_below : (n : ℕ) (p : ℕ → Bool) → all_below n p ≡ true → (x : ℕ) → x < n → p x ≡ true
each_below zero p h x l = absurd (omega arith)
each_below (suc n) p h x l =
    let k = and_parts (p n) (all_below n p) h in
    ⊎_elim (λ m. each_below n p k.1 x m)
    (λ m. let e : n ≡ x = omega arith in subst (λ y. p y ≡ true) e k.0) (cases_lt x n)
