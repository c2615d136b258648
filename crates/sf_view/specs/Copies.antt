-- Copies of parts of a view.
use Rattle.std.specs.Prelude.{◌≡◌, ℕ, List as Seq, Option, Some, None}
use Rattle.sf_value.specs.declared.dialect.Dialect.{Dialect}
use Rattle.sf_value.specs.declared.value.Field.{Field}
use Rattle.sf_value.specs.declared.value.Kind.{Kind}
use Rattle.sf_value.specs.declared.value.List.{List}
use Rattle.sf_value.specs.declared.value.Dict.{Dict}
use Rattle.sf_value.specs.declared.value.Member.{Member}
use Rattle.sf_value.specs.Grammar.Pairs.{Pairs}
use Rattle.sf_parse.specs.Parsers.{IsOnly}

-- the copy of a value is that value, and there is a copy unless the value is not valid
abbrev pub IsCopy : {X : Type 0} → Type 0 → X → Option X → Type 0
IsCopy valid x None = valid → ⊥
IsCopy valid x (Some y) = y ≡ x

-- the copy is the only field that the text spells
abbrev pub IsFieldOf : Dialect → Kind → Seq ℕ → Option Field → Type 0
IsFieldOf d kind t None = ⊥
IsFieldOf d kind t (Some v) = IsOnly d kind t v

-- a List of these members
abbrev pub list_of : Seq Member → List
list_of ms = record { members = ms }

-- a Dictionary of these entries
abbrev pub dict_of : Pairs Member → Dict
dict_of ps = record { members = ps }
