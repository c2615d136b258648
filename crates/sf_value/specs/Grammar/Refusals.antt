-- Exact refusals of texts.
use Rattle.std.specs.Prelude.{◌≡◌, ℕ, ◌<◌, ◌↔◌, Bool, true, List, [], ◌∷◌, ◌++◌, take, Option, slice_get}
use Rattle.std.specs.Int.{bit_at}
use Rattle.sf_value.specs.declared.dialect.Dialect.{Dialect}
use Rattle.sf_value.specs.declared.value.Field.{Field}
use Rattle.sf_value.specs.declared.value.Kind.{Kind}
use Rattle.sf_value.specs.Grammar.Fields.{SpellsField}
use Rattle.sf_value.specs.Grammar.Lines.{Viable, IsPlace}

-- an exact refusal of the text t
pub record IsSyntax (d : Dialect) (kind : Kind) (t : List ℕ) (place : ℕ) (found : Option ℕ)
    (expected : ℕ) (may_end : Bool) : Type 0 where
  -- no value is spelled
  pub unspelled : (v : Field) → SpellsField d kind t v → ⊥
  -- the place is the length of the longest viable prefix
  pub is_place : IsPlace d kind t place
  pub byte : found ≡ slice_get t place
  -- bit b is set exactly if byte b may follow that prefix
  pub next : (b : ℕ) → b < 128 → (bit_at expected b ≡ 1) ↔ Viable d kind (take place t ++ b ∷ [])
  pub some : 0 < expected
  -- whether that prefix is itself a text
  pub ends : (may_end ≡ true) ↔ ((v : Field) × SpellsField d kind (take place t) v)
