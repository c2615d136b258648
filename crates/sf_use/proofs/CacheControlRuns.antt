-- Runs of bytes that pass a test, before a byte that does not.
use Rattle.std.proofs.Common.{◌≡◌, ℕ, ◌+◌, Bool, true, false, List, [], ◌∷◌, ◌++◌, length, take}
use Rattle.std.proofs.Common.{drop, refl, ap, arith, Option, Some}
use Rattle.std.specs.List.{prefix_len}
use Rattle.std.proofs.Math.Numerals.{one-add}
use Rattle.std.proofs.Math.Seq.{drop-append_seam, take-append_seam}
use Rattle.std.proofs.lemmas.List.{take-append-drop}
use Rattle.sf_value.specs.Grammar.Words.{Every}
use Rattle.sf_use.specs.CacheControlSteps.{after_run, run_of}

-- the text does not begin with a byte that passes
abbrev pub Stops : (ℕ → Bool) → List ℕ → Type 0
Stops p [] = Unit {0}
Stops p (b ∷ t) = p b ≡ false

pub prefix_len_of_run : (p : ℕ → Bool) (xs ys : List ℕ) → Every p xs → Stops p ys
    → prefix_len p (xs ++ ys) ≡ length xs
prefix_len_of_run p [] [] h s = refl
prefix_len_of_run p [] (b ∷ ys) h s = rw s refl
prefix_len_of_run p (x ∷ xs) ys h s =
    let more = prefix_len_of_run p xs ys h.1 s in
    rw h.0 (omega (arith, more))

pub run_of_append : (p : ℕ → Bool) (xs ys : List ℕ) → Every p xs → Stops p ys
    → run_of p (xs ++ ys) ≡ xs
run_of_append p xs ys h s =
    rw (prefix_len_of_run p xs ys h s) (take-append_seam xs ys)

pub after_run_append : (p : ℕ → Bool) (xs ys : List ℕ) → Every p xs → Stops p ys
    → after_run p (xs ++ ys) ≡ ys
after_run_append p xs ys h s =
    rw (prefix_len_of_run p xs ys h s) (drop-append_seam xs ys)

pub run_parts : (p : ℕ → Bool) (t : List ℕ) → run_of p t ++ after_run p t ≡ t
run_parts p t = take-append-drop (prefix_len p t) t

pub run_passes : (p : ℕ → Bool) (t : List ℕ) → Every p (run_of p t)
run_passes p [] = tt
run_passes p (b ∷ t) = by (p b) refl (run_passes p t)
  where
    by : (r : Bool) → p b ≡ r → Every p (run_of p t) → Every p (run_of p (b ∷ t))
    by true e rest = rw (e, one-add (prefix_len p t)) (e, rest)
    by false e rest = rw e tt

pub after_run_stops : (p : ℕ → Bool) (t : List ℕ) → Stops p (after_run p t)
after_run_stops p [] = tt
after_run_stops p (b ∷ t) = by (p b) refl (after_run_stops p t)
  where
    by : (r : Bool) → p b ≡ r → Stops p (after_run p t) → Stops p (after_run p (b ∷ t))
    by true e rest = rw (e, one-add (prefix_len p t)) rest
    by false e rest = rw e e

-- equal pairs
pub some_pair : {A B : Type 0} (a c : A) (b d : B)
    → ◌≡◌ {A = Option (A × B)} (Some (a, b)) (Some (c, d)) → (a ≡ c) × (b ≡ d)
some_pair {A = A} {B = B} a c b d e =
    let p : ◌≡◌ {A = A × B} (a, b) (c, d) = cc in
    (ap (λ (x : A × B). x.0) p, ap (λ (x : A × B). x.1) p)

pub not_nil : (b : ℕ) (t : List ℕ) → ◌≡◌ {A = List ℕ} [] (b ∷ t) → ⊥
not_nil b t e = cc
