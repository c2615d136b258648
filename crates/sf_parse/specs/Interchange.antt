-- Prefixes that the same texts complete, and refusals after them.
use Rattle.std.specs.Prelude.{ℕ, ◌+◌, ◌<◌, ◌↔◌, Bool, List, ◌∷◌, ◌++◌, length, Option}
use Rattle.sf_value.specs.Ascii.{comma}
use Rattle.sf_value.specs.declared.dialect.Dialect.{Dialect}
use Rattle.sf_value.specs.declared.value.Field.{Field}
use Rattle.sf_value.specs.declared.value.Field.TheVariants as field
use Rattle.sf_value.specs.declared.value.Kind.{Kind}
use Rattle.sf_value.specs.Grammar.Words.{Every}
use Rattle.sf_value.specs.Grammar.Classes.{is_ows}
use Rattle.sf_value.specs.Grammar.Fields.{SpellsField}
use Rattle.sf_value.specs.Grammar.Lines.{Viable}
use Rattle.sf_value.specs.Grammar.Refusals.{IsSyntax}

-- the text spells some field of the kind
abbrev pub SpellsSome : Dialect → Kind → List ℕ → Type 0
SpellsSome d kind t = (v : Field) × SpellsField d kind t v

-- the same texts complete both prefixes to a text of the kind
abbrev pub AreInterchangeable : Dialect → Kind → List ℕ → List ℕ → Type 0
AreInterchangeable d kind p q =
    (u : List ℕ) → SpellsSome d kind (p ++ u) ↔ SpellsSome d kind (q ++ u)

-- a refusal n bytes after one of two such prefixes is the refusal n bytes after the other
abbrev pub RefusalsMove : Type 0
RefusalsMove =
    (d : Dialect) (kind : Kind) (p q s : List ℕ) (n : ℕ) (found : Option ℕ) (expected : ℕ)
    (may_end : Bool)
    → AreInterchangeable d kind p q
    → IsSyntax d kind (q ++ s) (length q + n) found expected may_end
    → IsSyntax d kind (p ++ s) (length p + n) found expected may_end

-- the field is a List or a Dictionary with a member
abbrev pub HasMember : Field → Type 0
HasMember (field.Item i) = ⊥
HasMember (field.List l) = 0 < length l.members
HasMember (field.Dict m) = 0 < length m.members

-- a comma may come after members
abbrev pub CommaViable : Type 0
CommaViable =
    (d : Dialect) (kind : Kind) (t white : List ℕ) (v : Field)
    → SpellsField d kind t v → HasMember v → Every is_ows white
    → Viable d kind (t ++ comma ∷ white)

-- a comma after members: what comes next does not depend on which members they are
abbrev pub ForgetsMembers : Type 0
ForgetsMembers =
    (d : Dialect) (kind : Kind) (t t' white white' : List ℕ) (v v' : Field)
    → SpellsField d kind t v → HasMember v → Every is_ows white
    → SpellsField d kind t' v' → HasMember v' → Every is_ows white'
    → AreInterchangeable d kind (t ++ comma ∷ white) (t' ++ comma ∷ white')
