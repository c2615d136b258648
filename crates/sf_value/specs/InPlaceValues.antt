-- Values that are stored in place as a whole, without an allocation.
use Rattle.std.specs.Prelude.{◌≡◌, []}
use Rattle.sf_value.specs.declared.value.Bare.{Bare}
use Rattle.sf_value.specs.declared.value.Bare.TheVariants.{Integer, Decimal, Text, Token}
use Rattle.sf_value.specs.declared.value.Bare.TheVariants.{Blob, Boolean, Date, Shown}
use Rattle.sf_value.specs.declared.value.Item.{Item}
use Rattle.sf_value.specs.declared.value.Inner.{Inner}
use Rattle.sf_value.specs.declared.value.Member.{Member}
use Rattle.sf_value.specs.declared.value.Member.TheVariants as member
use Rattle.sf_value.specs.declared.value.Field.{Field}
use Rattle.sf_value.specs.declared.value.Field.TheVariants as field
use Rattle.sf_value.specs.InPlace.{FitsInPlace}

-- a number, a Boolean or a Date, or at most 16 bytes
abbrev pub BareInPlace : Bare → Type 0
BareInPlace (Integer n) = Unit {0}
BareInPlace (Decimal m) = Unit {0}
BareInPlace (Text s) = FitsInPlace s
BareInPlace (Token s) = FitsInPlace s
BareInPlace (Blob s) = FitsInPlace s
BareInPlace (Boolean b) = Unit {0}
BareInPlace (Date n) = Unit {0}
BareInPlace (Shown s) = FitsInPlace s

-- an Item whose bare item is stored in place, without parameters
abbrev pub ItemInPlace : Item → Type 0
ItemInPlace i = BareInPlace i.bare × (i.params ≡ [])

-- an Inner List without Items and without parameters
abbrev pub InnerInPlace : Inner → Type 0
InnerInPlace l = (l.items ≡ []) × (l.params ≡ [])

abbrev pub MemberInPlace : Member → Type 0
MemberInPlace (member.Item i) = ItemInPlace i
MemberInPlace (member.Inner l) = InnerInPlace l

-- an Item that is stored in place, or a List or a Dictionary without members
abbrev pub FieldInPlace : Field → Type 0
FieldInPlace (field.Item i) = ItemInPlace i
FieldInPlace (field.List l) = l.members ≡ []
FieldInPlace (field.Dict m) = m.members ≡ []
