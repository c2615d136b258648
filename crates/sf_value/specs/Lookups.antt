-- What a look-up finds: a bare item as a value of its type, a member and a field as their variant.
-- One of another type or variant counts as absent.
use Rattle.std.specs.Prelude.{ℕ, ℤ, Bool, List as Seq, Option, Some, None}
use Rattle.sf_value.specs.declared.value.Bare.{Bare}
use Rattle.sf_value.specs.declared.value.Bare.TheVariants.{Integer, Decimal, Text, Token}
use Rattle.sf_value.specs.declared.value.Bare.TheVariants.{Blob, Boolean, Date, Shown}
use Rattle.sf_value.specs.declared.value.Item.{Item}
use Rattle.sf_value.specs.declared.value.Inner.{Inner}
use Rattle.sf_value.specs.declared.value.List.{List}
use Rattle.sf_value.specs.declared.value.Dict.{Dict}
use Rattle.sf_value.specs.declared.value.Member.{Member}
use Rattle.sf_value.specs.declared.value.Member.TheVariants as member
use Rattle.sf_value.specs.declared.value.Field.{Field}
use Rattle.sf_value.specs.declared.value.Field.TheVariants as field

abbrev pub as_integer : Bare → Option ℤ
as_integer (Integer n) = Some n
as_integer other = None

abbrev pub as_decimal : Bare → Option ℤ
as_decimal (Decimal m) = Some m
as_decimal other = None

abbrev pub as_text : Bare → Option (Seq ℕ)
as_text (Text s) = Some s
as_text other = None

abbrev pub as_token : Bare → Option (Seq ℕ)
as_token (Token s) = Some s
as_token other = None

abbrev pub as_blob : Bare → Option (Seq ℕ)
as_blob (Blob s) = Some s
as_blob other = None

abbrev pub as_boolean : Bare → Option Bool
as_boolean (Boolean b) = Some b
as_boolean other = None

abbrev pub as_date : Bare → Option ℤ
as_date (Date n) = Some n
as_date other = None

abbrev pub as_shown : Bare → Option (Seq ℕ)
as_shown (Shown s) = Some s
as_shown other = None

abbrev pub member_item : Member → Option Item
member_item (member.Item i) = Some i
member_item (member.Inner l) = None

abbrev pub member_inner : Member → Option Inner
member_inner (member.Item i) = None
member_inner (member.Inner l) = Some l

abbrev pub field_item : Field → Option Item
field_item (field.Item i) = Some i
field_item other = None

abbrev pub field_list : Field → Option List
field_list (field.List l) = Some l
field_list other = None

abbrev pub field_dict : Field → Option Dict
field_dict (field.Dict m) = Some m
field_dict other = None
