-- What the machine's steps decide for texts.
use Rattle.std.specs.Prelude.{◌≡◌, ℕ, ◌<◌, ◌↔◌, true, List, [], ◌∷◌, ◌++◌}
use Rattle.sf_value.specs.Grammar.Fields.{SpellsField}
use Rattle.sf_value.specs.Grammar.Lines.{Viable, Next}
use Rattle.sf_value.specs.declared.dialect.Dialect.{Dialect}
use Rattle.sf_value.specs.declared.value.Field.{Field}
use Rattle.sf_value.specs.declared.value.Kind.{Kind}
use Rattle.sf_parse.specs.Machine.States.{State}
use Rattle.sf_parse.specs.Machine.Tests.{takes, may_end}
use Rattle.sf_parse.specs.Reaching.{IsReachedBy}

-- the step decides whether the byte may come next
abbrev pub TakesNext : Type 0
TakesNext = (d : Dialect) (kind : Kind) (s : State) (p : List ℕ) (b : ℕ) → IsReachedBy d kind s p
    → Viable d kind (p ++ b ∷ []) ↔ (takes d s b ≡ true)

-- the value at the end decides whether the text may end
abbrev pub EndsText : Type 0
EndsText = (d : Dialect) (kind : Kind) (s : State) (p : List ℕ) → IsReachedBy d kind s p → ((v : Field)
    × SpellsField d kind p v) ↔ (may_end s ≡ true)

-- a byte that may come is below 128
abbrev pub NextBelow : Type 0
NextBelow = (d : Dialect) (kind : Kind) (p : List ℕ) (b : ℕ) → Viable d kind (p ++ b ∷ []) → b < 128

-- after a text that reached a state, some byte may come next
abbrev pub SomeNext : Type 0
SomeNext = (d : Dialect) (kind : Kind) (s : State) (p : List ℕ) → IsReachedBy d kind s p → (b : ℕ)
    × Next d kind p b
