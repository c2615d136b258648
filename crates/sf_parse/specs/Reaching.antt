-- What a state says of the text by which it was reached.
use Rattle.std.specs.Prelude.{◌≡◌, ℕ, ◌↔◌, List, [], ◌∷◌, ◌++◌, length, Some, None}
use Rattle.sf_value.specs.Grammar.Fields.{SpellsField}
use Rattle.sf_value.specs.Grammar.Lines.{Viable, IsPlace}
use Rattle.sf_value.specs.declared.dialect.Dialect.{Dialect}
use Rattle.sf_value.specs.declared.value.Field.{Field}
use Rattle.sf_value.specs.declared.value.Kind.{Kind}
use Rattle.sf_parse.specs.Machine.Language.{run}
use Rattle.sf_parse.specs.Machine.States.{State}
use Rattle.sf_parse.specs.Machine.Fields.{Residual, Good, step, finish, begin}

-- what completes the state completes the text
pub record IsReachedBy (d : Dialect) (kind : Kind) (s : State) (p : List ℕ) : Type 0 where
  pub good : Good s
  pub completes : (u : List ℕ) (v : Field) → Residual d s u v ↔ SpellsField d kind (p ++ u) v

-- the first state is reached by the empty text
abbrev pub ReachesNothing : Type 0
ReachesNothing = (d : Dialect) (kind : Kind) → IsReachedBy d kind (begin kind) []

-- a state to which further bytes lead is reached by the text with them after it
abbrev pub ReachesMore : Type 0
ReachesMore = (d : Dialect) (kind : Kind) (s t : State) (p x : List ℕ) → IsReachedBy d kind s p
    → run (step d) s x ≡ Some t → IsReachedBy d kind t (p ++ x)

-- a text that reaches a state is viable
abbrev pub ReachesViable : Type 0
ReachesViable = (d : Dialect) (kind : Kind) (s : State) (p : List ℕ) → IsReachedBy d kind s p
    → Viable d kind p

-- a byte may come next exactly if the step takes it
abbrev pub ReachesNext : Type 0
ReachesNext = (d : Dialect) (kind : Kind) (s : State) (p : List ℕ) (b : ℕ) → IsReachedBy d kind s p
    → Viable d kind (p ++ b ∷ []) ↔ ((t : State)
    × (step d s b ≡ Some t))

-- the text spells exactly the value that the state has at the end
abbrev pub ReachesEnd : Type 0
ReachesEnd = (d : Dialect) (kind : Kind) (s : State) (p : List ℕ) (v : Field) → IsReachedBy d kind s p
    → SpellsField d kind p v ↔ (finish s ≡ Some v)

-- if the step can't take the next byte, the refusal is at the end of the text
abbrev pub ReachesStops : Type 0
ReachesStops = (d : Dialect) (kind : Kind) (s : State) (p q : List ℕ) (b : ℕ) → IsReachedBy d kind s p
    → step d s b ≡ None → IsPlace d kind (p ++ b ∷ q) (length p)

-- if no byte is left, the refusal is at the end of the text
abbrev pub ReachesAll : Type 0
ReachesAll = (d : Dialect) (kind : Kind) (s : State) (p : List ℕ) → IsReachedBy d kind s p
    → IsPlace d kind p (length p)
