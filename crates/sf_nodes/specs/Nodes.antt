-- The parts of a value in the order of the canonical text, for the clauses of `flatten` and `Flat`.
use Rattle.std.specs.Prelude.{ℕ, ◌+◌, pos, List as Seq, [], ◌∷◌, ◌++◌, length}
use Rattle.sf_value.specs.declared.value.Bare.{Bare}
use Rattle.sf_value.specs.declared.value.Item.{Item}
use Rattle.sf_value.specs.declared.value.Inner.{Inner}
use Rattle.sf_value.specs.declared.value.Member.{Member}
use Rattle.sf_value.specs.declared.value.Member.TheVariants as member
use Rattle.sf_value.specs.declared.value.Field.{Field}
use Rattle.sf_value.specs.declared.value.Field.TheVariants as field
use Rattle.sf_value.specs.Grammar.Pairs.{Pairs}
use Rattle.sf_view.specs.declared.node_types.NodeType.TheVariants as types
use Rattle.sf_view.specs.declared.node_types.Role.{Role}
use Rattle.sf_view.specs.declared.node_types.Role.TheVariants as roles
use Rattle.sf_view.specs.View.{type_of, number_of, text_of}
use Rattle.sf_nodes.specs.NodeContents.{NodeContent}

-- a bare item with this role, key and size
abbrev pub bare_content : Role → Seq ℕ → ℕ → Bare → NodeContent
bare_content role key size x = record {
  role = role;
  node_type = type_of x;
  number = number_of x;
  key = key;
  text = text_of x;
  size = size;
}

-- parameters of an Item or of an Inner List: a node for each
abbrev pub params_content : Role → Pairs Bare → Seq NodeContent
params_content role [] = []
params_content role (p ∷ ps) = bare_content role p.0 1 p.1 ∷ params_content role ps

-- an Item: its bare item, then its parameters
abbrev pub item_content : Role → Seq ℕ → Item → Seq NodeContent
item_content role key i =
    bare_content role key (1 + length i.params) i.bare ∷ params_content roles.Parameter i.params

-- the Items of an Inner List
abbrev pub items_content : Seq Item → Seq NodeContent
items_content [] = []
items_content (i ∷ is) = item_content roles.InnerItem [] i ++ items_content is

-- the Items of an Inner List, then its parameters
abbrev pub inside_content : Inner → Seq NodeContent
inside_content l = items_content l.items ++ params_content roles.InnerParameter l.params

-- an Inner List: its node, then its Items and its parameters
abbrev pub inner_content : Seq ℕ → Inner → Seq NodeContent
inner_content key l =
    record {
      role = roles.Member;
      node_type = types.InnerList;
      number = pos 0;
      key = key;
      text = [];
      size = 1 + length (inside_content l);
    }
    ∷ inside_content l

-- a member, with the key that it has in a Dictionary
abbrev pub member_content : Seq ℕ → Member → Seq NodeContent
member_content key (member.Item i) = item_content roles.Member key i
member_content key (member.Inner l) = inner_content key l

-- the members of a List
abbrev pub members_content : Seq Member → Seq NodeContent
members_content [] = []
members_content (m ∷ ms) = member_content [] m ++ members_content ms

-- the members of a Dictionary
abbrev pub entries_content : Pairs Member → Seq NodeContent
entries_content [] = []
entries_content (p ∷ ps) = member_content p.0 p.1 ++ entries_content ps

-- a field
abbrev pub field_content : Field → Seq NodeContent
field_content (field.Item i) = item_content roles.Member [] i
field_content (field.List l) = members_content l.members
field_content (field.Dict d) = entries_content d.members
