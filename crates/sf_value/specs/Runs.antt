-- What a text begins with.
use Rattle.std.specs.Prelude.{◌≡◌, ℕ, Bool, false, List, [], ◌∷◌, ◌++◌, ⊤}
use Rattle.sf_value.specs.Grammar.Words.{Every}

-- P holds for the first byte, if there is one
abbrev pub FirstIs : (ℕ → Type 0) → List ℕ → Type 0
FirstIs P [] = ⊤
FirstIs P (b ∷ more) = P b

-- the first byte, if there is one, fails the test
abbrev pub Lacks : (ℕ → Bool) → List ℕ → Type 0
Lacks p = FirstIs (λ b. p b ≡ false)

-- the rest comes after all bytes at the beginning that pass the test; there may be none
pub record Skips (p : ℕ → Bool) (text rest : List ℕ) : Type 0 where
  pub prefix : List ℕ
  pub split : text ≡ prefix ++ rest
  pub each : Every p prefix
  pub longest : Lacks p rest
