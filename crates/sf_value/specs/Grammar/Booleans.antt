-- The texts of Booleans.
use Rattle.std.specs.Prelude.{◌≡◌, ℕ, Bool, if◌then◌else◌, List, [], ◌∷◌}
use Rattle.sf_value.specs.Ascii.{digit_zero, digit_one, question_mark}

-- a Boolean (3.3.6, 4.2.8): ?1 or ?0
abbrev pub SpellsBoolean : List ℕ → Bool → Type 0
SpellsBoolean t b = t ≡ question_mark ∷ (if b then digit_one else digit_zero) ∷ []
