-- The valid values: numbers are in range, alphabets are kept, UTF-8 is well-formed, no key occurs
-- twice.
use Rattle.std.specs.Prelude.{◌≡◌, ◌^◌, ◌<◌, nat_abs, true}
use Rattle.sf_value.specs.declared.dialect.Dialect.{Dialect}
use Rattle.sf_value.specs.declared.value.Bare.{Bare}
use Rattle.sf_value.specs.declared.value.Bare.TheVariants.{Integer, Decimal, Text, Token}
use Rattle.sf_value.specs.declared.value.Bare.TheVariants.{Blob, Boolean, Date, Shown}
use Rattle.sf_value.specs.declared.value.Item.{Item}
use Rattle.sf_value.specs.declared.value.Inner.{Inner}
use Rattle.sf_value.specs.declared.value.Member.{Member}
use Rattle.sf_value.specs.declared.value.Member.TheVariants as member
use Rattle.sf_value.specs.declared.value.Field.{Field}
use Rattle.sf_value.specs.declared.value.Field.TheVariants as field
use Rattle.sf_value.specs.declared.value.Kind.{Kind}
use Rattle.sf_value.specs.declared.value.Kind.TheVariants as kind
use Rattle.sf_value.specs.Grammar.Words.{Every, Each}
use Rattle.sf_value.specs.Grammar.Classes.{is_visible, is_byte}
use Rattle.sf_value.specs.Grammar.Dialects.{is_rfc9651}
use Rattle.sf_value.specs.Grammar.Pairs.{Pairs, HasDistinctKeys}
use Rattle.sf_value.specs.Grammar.Tokens.{IsKey, IsToken}
use Rattle.sf_value.specs.Grammar.Utf8.{WellFormed, Start}

-- a valid bare item (3.3.1 to 3.3.8)
abbrev pub ValidBare : Dialect → Bare → Type 0
ValidBare d (Integer n) = nat_abs n < 10 ^ 15
ValidBare d (Decimal m) = nat_abs m < 10 ^ 15
ValidBare d (Text s) = Every is_visible s
ValidBare d (Token s) = IsToken s
ValidBare d (Blob s) = Every is_byte s
ValidBare d (Boolean b) = Unit {0}
ValidBare d (Date n) = (is_rfc9651 d ≡ true) × (nat_abs n < 10 ^ 15)
ValidBare d (Shown s) = (is_rfc9651 d ≡ true) × WellFormed Start s × Every is_byte s

-- valid parameters (3.1.2): keys, valid values, no key twice
abbrev pub ValidParams : Dialect → Pairs Bare → Type 0
ValidParams d ps = Each (λ p. IsKey p.0 × ValidBare d p.1) ps × HasDistinctKeys ps

-- a valid Item (3.3)
abbrev pub ValidItem : Dialect → Item → Type 0
ValidItem d i = ValidBare d i.bare × ValidParams d i.params

-- a valid Inner List (3.1.1)
abbrev pub ValidInner : Dialect → Inner → Type 0
ValidInner d l = Each (ValidItem d) l.items × ValidParams d l.params

-- a valid member (3.1, 3.2)
abbrev pub ValidMember : Dialect → Member → Type 0
ValidMember d (member.Item i) = ValidItem d i
ValidMember d (member.Inner l) = ValidInner d l

-- valid entries of a Dictionary (3.2)
abbrev pub ValidEntries : Dialect → Pairs Member → Type 0
ValidEntries d ps = Each (λ p. IsKey p.0 × ValidMember d p.1) ps × HasDistinctKeys ps

-- a valid field of a kind and a dialect
abbrev pub Valid : Dialect → Kind → Field → Type 0
Valid d kind.Item (field.Item i) = ValidItem d i
Valid d kind.List (field.List l) = Each (ValidMember d) l.members
Valid d kind.Dict (field.Dict m) = ValidEntries d m.members
Valid d k v = ⊥
