-- What the timed calls state of a text.
use Rattle.std.specs.Prelude.{◌≡◌, ℕ, List, length}
use Rattle.sf_value.specs.declared.dialect.Dialect.TheVariants.{Rfc9651}
use Rattle.sf_value.specs.declared.value.Field.{Field}
use Rattle.sf_value.specs.declared.value.Kind.{Kind}
use Rattle.sf_value.specs.declared.value.Kind.TheVariants as kind
use Rattle.sf_value.specs.Grammar.Canonical.{canon}
use Rattle.sf_parse.specs.Parsers.{IsOnly}

-- the letter of a kind
abbrev pub letter : Kind → ℕ
letter kind.Item = 105
letter kind.List = 108
letter kind.Dict = 100

-- the text spells a value of this kind
abbrev pub IsAccepted : Kind → List ℕ → Type 0
IsAccepted kind text = (v : Field) × IsOnly Rfc9651 kind text v

-- the text spells a value of this kind, whose canonical text has this length
abbrev pub HasCanonical : Kind → List ℕ → ℕ → Type 0
HasCanonical kind text n = (v : Field) × IsOnly Rfc9651 kind text v × (n ≡ length (canon v))
