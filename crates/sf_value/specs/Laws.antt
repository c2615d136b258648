-- The laws of the definitions that do not depend on the machine. Each is the contract of a function
-- in `src/laws.rt`.
use Rattle.std.specs.Prelude.{◌≡◌, ℕ, ◌*◌, ◌≤◌, ◌↔◌, List, [], ◌++◌, length}
use Rattle.std.specs.Str.{IsUtf8}
use Rattle.sf_value.specs.declared.dialect.Dialect.{Dialect}
use Rattle.sf_value.specs.declared.dialect.Dialect.TheVariants.{Rfc8941, Rfc9651}
use Rattle.sf_value.specs.declared.value.Field.{Field}
use Rattle.sf_value.specs.declared.value.Field.TheVariants as field
use Rattle.sf_value.specs.declared.value.Kind.{Kind}
use Rattle.sf_value.specs.Grammar.Pairs.{Pairs, settle}
use Rattle.sf_value.specs.Grammar.Utf8.{WellFormed, Start}
use Rattle.sf_value.specs.Grammar.Fields.{SpellsField}
use Rattle.sf_value.specs.Grammar.Valid.{Valid}
use Rattle.sf_value.specs.Grammar.Canonical.{canon}

-- pairs may be settled before others follow them
abbrev pub SettlesInParts : Type 0 → Type 0
SettlesInParts V = (ps qs : Pairs V) → settle (settle ps ++ qs) ≡ settle (ps ++ qs)

-- the canonical text of a valid value spells it
abbrev pub CanonSpells : Type 0
CanonSpells =
    (d : Dialect) (kind : Kind) (v : Field) → Valid d kind v → SpellsField d kind (canon v) v

-- what a text spells is valid
abbrev pub SpelledIsValid : Type 0
SpelledIsValid =
    (d : Dialect) (kind : Kind) (t : List ℕ) (v : Field) → SpellsField d kind t v → Valid d kind v

-- the canonical text is at most eight fifths as long as any text of the value
abbrev pub CanonIsShort : Type 0
CanonIsShort =
    (d : Dialect) (kind : Kind) (t : List ℕ) (v : Field)
    → SpellsField d kind t v → 5 * length (canon v) ≤ 8 * length t

-- a List or a Dictionary without members
abbrev pub HasNoMembers : Field → Type 0
HasNoMembers (field.Item i) = ⊥
HasNoMembers (field.List l) = l.members ≡ []
HasNoMembers (field.Dict m) = m.members ≡ []

-- the canonical text of a valid value is empty exactly if the value has no members (4.1)
abbrev pub CanonIsEmpty : Type 0
CanonIsEmpty =
    (d : Dialect) (kind : Kind) (v : Field) → Valid d kind v → (canon v ≡ []) ↔ HasNoMembers v

-- what a text spells in RFC 8941 it spells in RFC 9651
abbrev pub SpellsInBoth : Type 0
SpellsInBoth =
    (kind : Kind) (t : List ℕ) (v : Field)
    → SpellsField Rfc8941 kind t v → SpellsField Rfc9651 kind t v

-- the table of UTF-8 is the UTF-8 of std
abbrev pub TableIsUtf8 : Type 0
TableIsUtf8 = (s : List ℕ) → WellFormed Start s ↔ IsUtf8 s
