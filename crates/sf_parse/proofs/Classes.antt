-- Tests on bytes.
use Rattle.std.proofs.Common.{◌≡◌, ℕ, Bool, true, false, ◌==◌, List, [], ◌∷◌, ⊎_elim}
use Rattle.std.proofs.Common.{ap, ◌∙◌, eqb-true}
use Rattle.std.proofs.lemmas.Bool.{or_cases}
use Rattle.sf_value.specs.Grammar.Classes.{is_one_of}
use Rattle.sf_parse.specs.Machine.Language.{is_follow}

-- the test fails at each byte of the list
abbrev pub NoneOf : (ℕ → Bool) → List ℕ → Type 0
NoneOf p [] = Unit {0}
NoneOf p (c ∷ cs) = (p c ≡ false) × NoneOf p cs

pub none_of : (p : ℕ → Bool) (cs : List ℕ) → NoneOf p cs → (b : ℕ) → is_one_of cs b ≡ true
    → p b ≡ false
none_of p [] h b e = absurd cc
none_of p (c ∷ cs) h b e = ⊎_elim (λ k. ap p (eqb-true b c k)
    ∙ h.0) (λ k. none_of p cs h.1 b k) (or_cases (b == c) (is_one_of cs b) e)

-- a test that fails at what may be after a bare item
pub not_follow : (p : ℕ → Bool) → NoneOf p (9 ∷ 32 ∷ 41 ∷ 44 ∷ 59 ∷ []) → (b : ℕ) → p b ≡ true
    → is_follow b ≡ true → ⊥
not_follow p h b e f = let n = none_of p (9 ∷ 32 ∷ 41 ∷ 44 ∷ 59 ∷ []) h b f in cc
