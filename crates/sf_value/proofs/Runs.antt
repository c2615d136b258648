-- Runs of bytes that pass a test.
use Rattle.std.proofs.Common.{◌≡◌, ℕ, ◌+◌, ◌-◌, ◌<◌, Bool, true, List, [], ◌∷◌, ◌++◌}
use Rattle.std.proofs.Common.{length, take, drop, get_or, zero, suc, sym, ap, ◌∙◌, subst, arith}
use Rattle.std.proofs.lemmas.List.{take_more, take_all, length-drop, drop-take, drop-drop}
use Rattle.std.proofs.Math.Seq.{take-add}
use Rattle.sf_value.specs.Grammar.Words.{Every}
use Rattle.sf_value.specs.Runs.{Lacks}
use Rattle.sf_value.proofs.Words.{every_push}

pub every_append : (p : ℕ → Bool) (xs ys : List ℕ) → Every p xs → Every p ys → Every p (xs ++ ys)
every_append p [] ys h k = k
every_append p (x ∷ xs) ys h k = (h.0, every_append p xs ys h.1 k)

-- one byte more, and a block more
pub every_more : (p : ℕ → Bool) (xs : List ℕ) (n : ℕ) → Every p (take n xs) → n < length xs
    → p (get_or xs n 0) ≡ true → Every p (take (n + 1) xs)
every_more p xs n h w e =
    subst (Every p) (sym (take_more xs n 0 w)) (every_push p (take n xs) (get_or xs n 0) h e)

pub every_block : (p : ℕ → Bool) (xs : List ℕ) (n k : ℕ) → Every p (take n xs)
    → Every p (take k (take (length xs - n) (drop n xs))) → Every p (take (n + k) xs)
every_block p xs n k h e =
    let whole : take (length xs - n) (drop n xs) ≡ drop n xs =
    take_all (length xs - n) (drop n xs) (omega (arith, length-drop n xs)) in
    subst (Every p) (sym (take-add n k xs))
    (every_append p (take n xs) (take k (drop n xs)) h
    (subst (λ ys. Every p (take k ys)) whole e))

-- a byte that is not of the class ends a run
pub lacks_take : (p : ℕ → Bool) (n : ℕ) (xs : List ℕ) → 0 < n → Lacks p (take n xs) → Lacks p xs
lacks_take p zero xs l h = absurd (omega arith)
lacks_take p (suc n) [] l h = h
lacks_take p (suc n) (x ∷ xs) l h = h

pub lacks_within : (p : ℕ → Bool) (run n : ℕ) (xs : List ℕ) → run < n → Lacks p (drop run (take n xs))
    → Lacks p (drop run xs)
lacks_within p run n xs l h =
    lacks_take p (n - run) (drop run xs) (omega arith)
    (subst (Lacks p) (ap (λ k. drop run (take k xs)) (omega arith) ∙ drop-take run (n - run) xs) h)

pub lacks_after : (p : ℕ → Bool) (run n : ℕ) (xs : List ℕ)
    → Lacks p (drop run (take (length xs - n) (drop n xs))) → Lacks p (drop (n + run) xs)
lacks_after p run n xs h =
    let whole : take (length xs - n) (drop n xs) ≡ drop n xs =
    take_all (length xs - n) (drop n xs) (omega (arith, length-drop n xs)) in
    subst (Lacks p) (ap (drop run) whole ∙ drop-drop run n xs) h
