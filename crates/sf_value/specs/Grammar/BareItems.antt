-- The texts of bare items.
use Rattle.std.specs.Prelude.{◌≡◌, ℕ, true, List}
use Rattle.sf_value.specs.declared.dialect.Dialect.{Dialect}
use Rattle.sf_value.specs.declared.value.Bare.{Bare}
use Rattle.sf_value.specs.declared.value.Bare.TheVariants.{Integer, Decimal, Text, Token}
use Rattle.sf_value.specs.declared.value.Bare.TheVariants.{Blob, Boolean, Date, Shown}
use Rattle.sf_value.specs.Grammar.Dialects.{is_rfc9651}
use Rattle.sf_value.specs.Grammar.Numbers.{SpellsInteger, SpellsDecimal, SpellsDate}
use Rattle.sf_value.specs.Grammar.Strings.{SpellsString}
use Rattle.sf_value.specs.Grammar.Tokens.{SpellsToken}
use Rattle.sf_value.specs.Grammar.ByteSequences.{SpellsByteSequence}
use Rattle.sf_value.specs.Grammar.Booleans.{SpellsBoolean}
use Rattle.sf_value.specs.Grammar.DisplayStrings.{SpellsDisplayString}

-- a bare item (3.3, 4.2.3.1), by its type; the last two are of RFC 9651 alone
abbrev pub SpellsBare : Dialect → List ℕ → Bare → Type 0
SpellsBare d t (Integer n) = SpellsInteger t n
SpellsBare d t (Decimal m) = SpellsDecimal t m
SpellsBare d t (Text s) = SpellsString t s
SpellsBare d t (Token s) = SpellsToken t s
SpellsBare d t (Blob b) = SpellsByteSequence t b
SpellsBare d t (Boolean b) = SpellsBoolean t b
SpellsBare d t (Date n) = (is_rfc9651 d ≡ true) × SpellsDate t n
SpellsBare d t (Shown s) = (is_rfc9651 d ≡ true) × SpellsDisplayString t s
