-- Equality of values as a test, which is what `==` returns. It is equality of trees: order counts,
-- and values of different types or variants differ. Each of these tests decides ≡ (`Deciding`).
use Rattle.std.specs.Prelude.{ℕ, Bool, false, ◌&&◌, List as Seq}
use Rattle.std.specs.Cmp.Lexicographic.{pointwise}
use Rattle.std.specs.Bool.{beq}
use Rattle.std.specs.Ordering.{int_eq}
use Rattle.std.specs.Str.{bytes_eq}
use Rattle.sf_value.specs.declared.value.Bare.{Bare}
use Rattle.sf_value.specs.declared.value.Bare.TheVariants.{Integer, Decimal, Text, Token}
use Rattle.sf_value.specs.declared.value.Bare.TheVariants.{Blob, Boolean, Date, Shown}
use Rattle.sf_value.specs.declared.value.Item.{Item}
use Rattle.sf_value.specs.declared.value.Inner.{Inner}
use Rattle.sf_value.specs.declared.value.List.{List}
use Rattle.sf_value.specs.declared.value.Dict.{Dict}
use Rattle.sf_value.specs.declared.value.Member.{Member}
use Rattle.sf_value.specs.declared.value.Member.TheVariants as member
use Rattle.sf_value.specs.declared.value.Field.{Field}
use Rattle.sf_value.specs.declared.value.Field.TheVariants as field

abbrev pub bare_eq : Bare → Bare → Bool
bare_eq (Integer a) (Integer b) = int_eq a b
bare_eq (Decimal a) (Decimal b) = int_eq a b
bare_eq (Text a) (Text b) = bytes_eq a b
bare_eq (Token a) (Token b) = bytes_eq a b
bare_eq (Blob a) (Blob b) = bytes_eq a b
bare_eq (Boolean a) (Boolean b) = beq a b
bare_eq (Date a) (Date b) = int_eq a b
bare_eq (Shown a) (Shown b) = bytes_eq a b
bare_eq a b = false

-- a key and its value
abbrev pub entry_eq : {V : Type 0} → (V → V → Bool) → Seq ℕ × V → Seq ℕ × V → Bool
entry_eq f a b = bytes_eq a.0 b.0 && f a.1 b.1

abbrev pub item_eq : Item → Item → Bool
item_eq a b = bare_eq a.bare b.bare && pointwise (entry_eq bare_eq) a.params b.params

abbrev pub inner_eq : Inner → Inner → Bool
inner_eq a b = pointwise item_eq a.items b.items && pointwise (entry_eq bare_eq) a.params b.params

abbrev pub member_eq : Member → Member → Bool
member_eq (member.Item a) (member.Item b) = item_eq a b
member_eq (member.Inner a) (member.Inner b) = inner_eq a b
member_eq a b = false

abbrev pub list_eq : List → List → Bool
list_eq a b = pointwise member_eq a.members b.members

abbrev pub dict_eq : Dict → Dict → Bool
dict_eq a b = pointwise (entry_eq member_eq) a.members b.members

abbrev pub field_eq : Field → Field → Bool
field_eq (field.Item a) (field.Item b) = item_eq a b
field_eq (field.List a) (field.List b) = list_eq a b
field_eq (field.Dict a) (field.Dict b) = dict_eq a b
field_eq a b = false
