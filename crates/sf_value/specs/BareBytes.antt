-- The bytes of bare items.
use Rattle.std.specs.Prelude.{ℕ, List, []}
use Rattle.sf_value.specs.declared.value.Bare.{Bare}
use Rattle.sf_value.specs.declared.value.Bare.TheVariants.{Integer, Decimal, Text, Token}
use Rattle.sf_value.specs.declared.value.Bare.TheVariants.{Blob, Boolean, Date, Shown}

-- none in a number, a Boolean or a Date
abbrev pub bytes_in : Bare → List ℕ
bytes_in (Integer n) = []
bytes_in (Decimal m) = []
bytes_in (Text s) = s
bytes_in (Token s) = s
bytes_in (Blob s) = s
bytes_in (Boolean b) = []
bytes_in (Date n) = []
bytes_in (Shown s) = s
