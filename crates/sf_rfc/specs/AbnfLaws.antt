-- The laws that texts keep to the ABNF.
use Rattle.std.specs.Prelude.{◌≡◌, ℕ, ◌<◌, ◌↔◌, ◌⊎◌, List as Seq, [], ◌∷◌, ◌++◌, Some}
use Rattle.sf_value.specs.declared.dialect.Dialect.{Dialect}
use Rattle.sf_value.specs.declared.value.Field.{Field}
use Rattle.sf_value.specs.declared.value.Field.TheVariants as field
use Rattle.sf_value.specs.declared.value.Kind.{Kind}
use Rattle.sf_value.specs.declared.value.Kind.TheVariants as kind
use Rattle.sf_value.specs.Grammar.Fields.{SpellsField}
use Rattle.sf_value.specs.Grammar.Valid.{Valid}
use Rattle.sf_value.specs.Grammar.Canonical.{canon}
use Rattle.sf_rfc.specs.Rfc9651.AbnfNotation.{Rule, text, many, SP, OWS}
use Rattle.sf_rfc.specs.Rfc9651.Parsing.{parse_field}
use Rattle.sf_rfc.specs.Rfc9651.Serialising.{NotSerialised, Serialised, serialise}
use Rattle.sf_rfc.specs.Rfc9651.Abnf.{sf_item, sf_list, sf_dictionary}
use Rattle.sf_rfc.specs.SerialisingLaws.{HasNoMembers}

-- P if there are members, otherwise the empty text: a List or a Dictionary without members is not
-- sent (3.1, 3.2), and there is no rule for it
abbrev pub if_sent : {X : Type 0} → Seq X → Rule → Rule
if_sent [] P = text []
if_sent (x ∷ xs) P = P

-- the rule of a field by its kind
abbrev pub field_rule : Dialect → Field → Rule
field_rule d (field.List l) = if_sent l.members (sf_list d)
field_rule d (field.Dict m) = if_sent m.members (sf_dictionary d)
field_rule d (field.Item i) = sf_item d

-- the canonical text of a valid field keeps to the ABNF
abbrev pub CanonKeepsAbnf : Type 0
CanonKeepsAbnf =
    (d : Dialect) (kind : Kind) (v : Field) → Valid d kind v → field_rule d v (canon v)

-- the rule of a kind of field
abbrev pub kind_rule : Dialect → Kind → Rule
kind_rule d kind.List = sf_list d
kind_rule d kind.Dict = sf_dictionary d
kind_rule d kind.Item = sf_item d

-- what the steps of the RFC return for a valid field (4.1): a text that keeps to the ABNF; or that
-- it is not serialised, without members
abbrev pub SerialisedKeepsAbnf : Type 0
SerialisedKeepsAbnf =
    (d : Dialect) (kind : Kind) (v : Field) → Valid d kind v
    → ((t : Seq ℕ) × (serialise d v ≡ Serialised t) × kind_rule d kind t)
    ⊎ ((serialise d v ≡ NotSerialised) × HasNoMembers v)

-- the white space that parsing discards after a field (4.2; 4.2.1 and 4.2.2 discard HTAB too)
abbrev pub white_space_after : Field → Rule
white_space_after (field.Item i) = many SP
white_space_after v = OWS

-- every text of a field keeps to the ABNF between white space, which the ABNF has no rule for
abbrev pub SpelledKeepsAbnf : Type 0
SpelledKeepsAbnf =
    (d : Dialect) (kind : Kind) (t : Seq ℕ) (v : Field) → SpellsField d kind t v
    → (gap body tail : Seq ℕ)
    × (t ≡ gap ++ (body ++ tail))
    × many SP gap
    × field_rule d v body
    × white_space_after v tail

-- the first character, and the last, is above SP (%x20) and so above HTAB
abbrev pub Begins : Seq ℕ → Type 0
Begins t = (c : ℕ) × (u : Seq ℕ) × (t ≡ c ∷ u) × (32 < c)

abbrev pub Ends : Seq ℕ → Type 0
Ends t = (u : Seq ℕ) × (c : ℕ) × (t ≡ u ++ c ∷ []) × (32 < c)

-- not empty, and without white space at its ends
abbrev pub IsTrimmed : Seq ℕ → Type 0
IsTrimmed t = Begins t × Ends t

-- a text of a field keeps to the ABNF exactly if it is trimmed
abbrev pub AbnfIsTrimmed : Type 0
AbnfIsTrimmed =
    (d : Dialect) (kind : Kind) (t : Seq ℕ) (v : Field) → SpellsField d kind t v
    → (kind_rule d kind t ↔ IsTrimmed t)

-- a text that the steps of the RFC parse (4.2) keeps to the ABNF exactly if it is trimmed
abbrev pub ParsedIsTrimmed : Type 0
ParsedIsTrimmed =
    (d : Dialect) (kind : Kind) (t : Seq ℕ) (v : Field) → parse_field d kind t ≡ Some v
    → (kind_rule d kind t ↔ IsTrimmed t)
