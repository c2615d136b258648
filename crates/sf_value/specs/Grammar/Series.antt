-- Members with commas between them: what Lists and Dictionaries have in common.
use Rattle.std.specs.Prelude.{◌≡◌, ℕ, List, [], ◌∷◌, ◌++◌}
use Rattle.sf_value.specs.Ascii.{comma}
use Rattle.sf_value.specs.Grammar.Words.{Every}
use Rattle.sf_value.specs.Grammar.Classes.{is_sp, is_ows}

-- OWS, a comma and OWS before each member
abbrev pub SpellsCommas : {X : Type 0} → (List ℕ → X → Type 0) → List ℕ → List X → Type 0
SpellsCommas P t [] = t ≡ []
SpellsCommas P t (x ∷ xs) =
    (before behind prefix suffix : List ℕ)
    × (t ≡ before ++ comma ∷ (behind ++ (prefix ++ suffix)))
    × Every is_ows before
    × Every is_ows behind
    × P prefix x
    × SpellsCommas P suffix xs

-- one text for each member, with OWS, a comma and OWS between two (4.2.1, 4.2.2)
abbrev pub SpellsSeries : {X : Type 0} → (List ℕ → X → Type 0) → List ℕ → List X → Type 0
SpellsSeries P t [] = t ≡ []
SpellsSeries P t (x ∷ xs) =
    (prefix suffix : List ℕ) × (t ≡ prefix ++ suffix) × P prefix x × SpellsCommas P suffix xs

-- SP alone for no member; otherwise SP, a series, OWS (4.2, 4.2.1, 4.2.2)
abbrev pub SpellsWhole : {X : Type 0} → (List ℕ → X → Type 0) → List ℕ → List X → Type 0
SpellsWhole P t [] = Every is_sp t
SpellsWhole P t (x ∷ xs) =
    (gap body tail : List ℕ)
    × (t ≡ gap ++ (body ++ tail))
    × Every is_sp gap
    × SpellsSeries P body (x ∷ xs)
    × Every is_ows tail
