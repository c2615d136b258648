-- Where a place of the joined lines of an input is.
use Rattle.std.proofs.Common.{◌≡◌, ℕ, suc, ◌+◌, ◌-◌, ◌<◌, ◌≤◌, inl, inr, List, [], ◌∷◌, length, map}
use Rattle.std.proofs.Common.{refl, arith, rules}
use Rattle.std.specs.Prelude.{nat_lt}
use Rattle.std.specs.Str.Lines.{lines}
use Rattle.std.proofs.lemmas.Bool.{cases_Bool}
use Rattle.sf_parse.specs.Spots.{place_in}
use Rattle.sf_tool.specs.Lines.{lines_of, trim}
use Rattle.sf_tool.proofs.Cuts.{lines-some}

-- a place behind the first of several lines, and the comma and the space after it
further : (n : ℕ) (line : List ℕ) (others : List (List ℕ)) (place : ℕ) → 0 < length others
    → 2 ≤ place - length (trim line)
    → place_in n (map trim (line ∷ others)) place
    ≡ place_in (suc n) (map trim others) (place - length (trim line) - 2)
further n line [] place some far = absurd (let none : ⊥ = omega arith in none)
further n line (l ∷ ls) place some far =
    elim (cases_Bool (nat_lt (place - length (trim line)) 2)) [
      | inl t ↦ (
          let near : place - length (trim line) < 2 = search (rules, t) in
          absurd (let none : ⊥ = omega arith in none)
          )
      | inr f ↦ (rw f refl)
    ]

-- the same in the input
pub place-further : (n : ℕ) (input line rest : List ℕ) (place : ℕ)
    → lines input ≡ line ∷ lines rest → 0 < length rest → 2 ≤ place - length (trim line)
    → place_in n (lines_of input) place
    ≡ place_in (n + 1) (lines_of rest) (place - length (trim line) - 2)
place-further n input line rest place first some far =
    let next : n + 1 ≡ suc n = omega arith in
    rw (next, first) (further n line (lines rest) place (lines-some rest some) far)
