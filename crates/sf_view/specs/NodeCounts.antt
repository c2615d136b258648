-- The number of nodes of a value, and the number of bytes of its keys and texts.
use Rattle.std.specs.Prelude.{ℕ, ◌+◌, List as Seq, [], ◌∷◌, length}
use Rattle.sf_value.specs.declared.value.Bare.{Bare}
use Rattle.sf_value.specs.declared.value.Item.{Item}
use Rattle.sf_value.specs.declared.value.Member.{Member}
use Rattle.sf_value.specs.declared.value.Member.TheVariants as member
use Rattle.sf_value.specs.declared.value.Field.{Field}
use Rattle.sf_value.specs.declared.value.Field.TheVariants as field
use Rattle.sf_value.specs.Grammar.Pairs.{Pairs}
use Rattle.sf_view.specs.View.{text_of}

-- nodes: one for each bare item and for each Inner List
abbrev pub item_nodes : Item → ℕ
item_nodes i = 1 + length i.params

abbrev pub items_nodes : Seq Item → ℕ
items_nodes [] = 0
items_nodes (i ∷ is) = item_nodes i + items_nodes is

abbrev pub member_nodes : Member → ℕ
member_nodes (member.Item i) = item_nodes i
member_nodes (member.Inner l) = 1 + items_nodes l.items + length l.params

abbrev pub members_nodes : Seq Member → ℕ
members_nodes [] = 0
members_nodes (m ∷ ms) = member_nodes m + members_nodes ms

abbrev pub entries_nodes : Pairs Member → ℕ
entries_nodes [] = 0
entries_nodes (p ∷ ps) = member_nodes p.1 + entries_nodes ps

abbrev pub field_nodes : Field → ℕ
field_nodes (field.Item i) = item_nodes i
field_nodes (field.List l) = members_nodes l.members
field_nodes (field.Dict d) = entries_nodes d.members

-- bytes: those of each key, and of each String, Token, Byte Sequence and Display String
abbrev pub params_bytes : Pairs Bare → ℕ
params_bytes [] = 0
params_bytes (p ∷ ps) = length p.0 + length (text_of p.1) + params_bytes ps

abbrev pub item_bytes : Item → ℕ
item_bytes i = length (text_of i.bare) + params_bytes i.params

abbrev pub items_bytes : Seq Item → ℕ
items_bytes [] = 0
items_bytes (i ∷ is) = item_bytes i + items_bytes is

abbrev pub member_bytes : Member → ℕ
member_bytes (member.Item i) = item_bytes i
member_bytes (member.Inner l) = items_bytes l.items + params_bytes l.params

abbrev pub members_bytes : Seq Member → ℕ
members_bytes [] = 0
members_bytes (m ∷ ms) = member_bytes m + members_bytes ms

abbrev pub entries_bytes : Pairs Member → ℕ
entries_bytes [] = 0
entries_bytes (p ∷ ps) = length p.0 + member_bytes p.1 + entries_bytes ps

abbrev pub field_bytes : Field → ℕ
field_bytes (field.Item i) = item_bytes i
field_bytes (field.List l) = members_bytes l.members
field_bytes (field.Dict d) = entries_bytes d.members
