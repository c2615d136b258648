-- What scanning the start of a text returns.
use Rattle.std.specs.Prelude.{◌≡◌, ℕ, pos, ◌+◌, ◌-◌, ◌≤◌, false, List, [], ◌∷◌, ◌++◌}
use Rattle.std.specs.Prelude.{length, take}
use Rattle.sf_value.specs.declared.dialect.Dialect.{Dialect}
use Rattle.sf_value.specs.declared.value.Bare.{Bare}
use Rattle.sf_value.specs.declared.value.Item.{Item}
use Rattle.sf_value.specs.Ascii.{close_bracket}
use Rattle.sf_value.specs.Grammar.Pairs.{Pairs}
use Rattle.sf_value.specs.Grammar.Tokens.{IsKey}
use Rattle.sf_value.specs.Grammar.BareItems.{SpellsBare}
use Rattle.std.specs.Prelude.{zero, suc, ◌⊎◌}
use Rattle.std.specs.List.{IsDistinct}
use Rattle.std.specs.Str.{bytes_eq}
use Rattle.sf_value.specs.Grammar.Parameters.{SpellsParam, SpellsRaw, SpellsParams}
use Rattle.sf_value.specs.declared.value.Member.{Member}
use Rattle.sf_value.specs.Grammar.Items.{SpellsItem}
use Rattle.sf_value.specs.Grammar.InnerLists.{SpellsItems, SpellsMember}
use Rattle.sf_value.specs.Grammar.Fields.{SpellsEntry}
use Rattle.sf_view.specs.declared.bare_part.Part.{Part}
use Rattle.sf_view.specs.declared.item.KeyPlace.{KeyPlace}
use Rattle.sf_view.specs.declared.keys.Marks.{Marks}
use Rattle.sf_view.specs.declared.node.Node.{Node}
use Rattle.sf_view.specs.declared.node_types.NodeType.TheVariants as type_is
use Rattle.sf_view.specs.declared.node_types.Role.{Role}
use Rattle.sf_view.specs.declared.node_types.Role.TheVariants as role_is
use Rattle.sf_view.specs.NodeTypes.{role_number, type_number, coded_number}
use Rattle.sf_view.specs.View.{slice_at, type_of, number_of, text_of, DescribesText, DescribesParams, DescribesItem, DescribesItems}
use Rattle.sf_view.specs.View.{DescribesMember}
use Rattle.sf_view.specs.Marks.{mark_of, HaveMarks}
use Rattle.std.specs.Map.{keys_of}

-- the source ends in this text
pub record IsEnd (source text : List ℕ) : Type 0 where
  pub before : List ℕ
  pub whole : source ≡ before ++ text

-- a key is at the start of the text, which ends a source of whole bytes
pub record ScansKey (whole : ℕ) (text : List ℕ) (place : KeyPlace) (rest : List ℕ) : Type 0 where
  pub prefix : List ℕ
  pub split : text ≡ prefix ++ rest
  pub key : IsKey prefix
  pub at : place.at + length text ≡ whole
  pub size : place.length ≡ length prefix
  pub mark : place.mark ≡ mark_of prefix

-- what was read of a bare item without bytes describes this one
pub record NumberDescribes (p : Part) (x : Bare) : Type 0 where
  pub node_type : p.node_type ≡ type_of x
  pub number : p.number ≡ number_of x
  pub at : p.at ≡ 0
  pub length : p.length ≡ 0
  pub coded : p.coded ≡ false
  pub none : text_of x ≡ []

-- what was read of a bare item describes this one
pub record PartDescribes (d : Dialect) (source : List ℕ) (p : Part) (x : Bare) : Type 0 where
  pub node_type : p.node_type ≡ type_of x
  pub number : p.number ≡ number_of x
  pub within : p.at + p.length ≤ length source
  pub text : DescribesText d p.coded (slice_at p.at p.length source) x

-- if these bytes spell the bare item, the part describes it in any source of this many bytes whose
-- last ones, so many, begin with them
abbrev pub PartShows : Bare → List ℕ → ℕ → ℕ → Part → Type 0
PartShows x spelled whole left p =
    (d : Dialect) (rest source : List ℕ) → SpellsBare d spelled x
    → IsEnd source (spelled ++ rest) → length (spelled ++ rest) ≡ left → length source ≡ whole
    → PartDescribes d source p x

-- the start of the text spells a bare item, which the part describes in any source that ends with
-- the text
pub record ScansBare (d : Dialect) (whole : ℕ) (text : List ℕ) (p : Part) (rest : List ℕ)
    : Type 0 where
  pub prefix : List ℕ
  pub value : Bare
  pub split : text ≡ prefix ++ rest
  pub spelled : SpellsBare d prefix value
  pub describes : (source : List ℕ) → IsEnd source text → length source ≡ whole
      → PartDescribes d source p value

-- the node of a bare item with no parameters
abbrev pub node_from : Role → KeyPlace → Part → Node
node_from role key part = record {
  number = part.number;
  key_at = key.at;
  key_length = key.length;
  text_at = part.at;
  text_length = part.length;
  size = 1;
  node_type = type_number part.node_type;
  role = role_number role;
  coded = coded_number part.coded;
}

-- the node with this size instead of its own
abbrev pub sized : ℕ → Node → Node
sized k n = record {
  number = n.number;
  key_at = n.key_at;
  key_length = n.key_length;
  text_at = n.text_at;
  text_length = n.text_length;
  size = k;
  node_type = n.node_type;
  role = n.role;
  coded = n.coded;
}

-- the keys of the parts that nodes describe: each part has as many nodes as the size of its first
abbrev pub keys_from : List ℕ → ℕ → List Node → List (List ℕ)
keys_from source k [] = []
keys_from source zero (n ∷ ns) =
    slice_at n.key_at n.key_length source ∷ keys_from source (n.size - 1) ns
keys_from source (suc k) (n ∷ ns) = keys_from source k ns

-- no two parts have the same key
abbrev pub AreApart : List ℕ → List Node → Type 0
AreApart source ns = IsDistinct bytes_eq (keys_from source 0 ns)

-- any keys with these marks differ, or those of the nodes do
abbrev pub DistinguishKeys : Marks → List ℕ → List Node → Type 0
DistinguishKeys m source ns =
    ((ks : List (List ℕ)) → HaveMarks m ks → IsDistinct bytes_eq ks) ⊎ AreApart source ns

-- these nodes were put after the first `at`; now there are `count`
pub record Puts (old new : List Node) (at count : ℕ) (ns : List Node) : Type 0 where
  pub within : count ≤ length new
  pub from : count ≡ at + length ns
  pub there : take count new ≡ take at old ++ ns

-- the start of the text spells a parameter: its key, and a bare item that the part describes
pub record ScansParam (d : Dialect) (whole : ℕ) (text : List ℕ) (place : KeyPlace) (p : Part)
    (rest : List ℕ) : Type 0 where
  pub prefix : List ℕ
  pub key : List ℕ
  pub value : Bare
  pub split : text ≡ prefix ++ rest
  pub spelled : SpellsParam d prefix key value
  pub mark : place.mark ≡ mark_of key
  pub key_at : (source : List ℕ) → IsEnd source text → length source ≡ whole
      → (place.at + place.length ≤ length source) × (slice_at place.at place.length source ≡ key)
  pub describes : (source : List ℕ) → IsEnd source text → length source ≡ whole
      → PartDescribes d source p value

-- the start of the text spells parameters, repeated keys included, and nodes that were put describe
-- them; these are the marks of their keys
pub record ScansRaw (d : Dialect) (source : List ℕ) (r : Role) (text rest : List ℕ) (old new : List Node)
    (at count : ℕ) (marks : Marks) : Type 0 where
  pub prefix : List ℕ
  pub raw : Pairs Bare
  pub nodes : List Node
  pub split : text ≡ prefix ++ rest
  pub spelled : SpellsRaw d prefix raw
  pub puts : Puts old new at count nodes
  pub describes : IsEnd source text → DescribesParams d source r nodes raw
  pub marked : HaveMarks marks (keys_of raw)

-- the start of the text spells parameters, and nodes that were put describe them
pub record ScansParams (d : Dialect) (source : List ℕ) (r : Role) (text rest : List ℕ) (old new : List Node)
    (at count : ℕ) : Type 0 where
  pub prefix : List ℕ
  pub values : Pairs Bare
  pub nodes : List Node
  pub split : text ≡ prefix ++ rest
  pub spelled : IsEnd source text → SpellsParams d prefix values
  pub puts : Puts old new at count nodes
  pub describes : IsEnd source text → DescribesParams d source r nodes values

-- the start of the text spells parameters; a node whose size counts them, and nodes that describe
-- them, were put
pub record ScansRest (d : Dialect) (source text rest : List ℕ) (node : Node) (old new : List Node)
    (at count : ℕ) : Type 0 where
  pub prefix : List ℕ
  pub values : Pairs Bare
  pub nodes : List Node
  pub split : text ≡ prefix ++ rest
  pub spelled : IsEnd source text → SpellsParams d prefix values
  pub puts : Puts old new at count (sized (1 + length nodes) node ∷ nodes)
  pub describes : IsEnd source text → DescribesParams d source role_is.Parameter nodes values

-- the start of the text spells an Item, and nodes that were put describe it
pub record ScansItem (d : Dialect) (source text rest : List ℕ) (r : Role) (place : KeyPlace)
    (old new : List Node) (at count : ℕ) : Type 0 where
  pub prefix : List ℕ
  pub value : Item
  pub nodes : List Node
  pub split : text ≡ prefix ++ rest
  pub spelled : IsEnd source text → SpellsItem d prefix value
  pub puts : Puts old new at count nodes
  pub describes : IsEnd source text → place.at + place.length ≤ length source
      → DescribesItem d source r (slice_at place.at place.length source) nodes value

-- the node of an Inner List
abbrev pub opening_of : KeyPlace → ℕ → Node
opening_of key k = record {
  number = pos 0;
  key_at = key.at;
  key_length = key.length;
  text_at = 0;
  text_length = 0;
  size = k;
  node_type = type_number type_is.InnerList;
  role = role_number role_is.Member;
  coded = 0;
}

-- the start of the text spells the Items of an Inner List, a closing bracket follows, and nodes
-- that were put describe them
pub record ScansItems (d : Dialect) (source text rest : List ℕ) (old new : List Node)
    (at count : ℕ) : Type 0 where
  pub prefix : List ℕ
  pub values : List Item
  pub nodes : List Node
  pub split : text ≡ prefix ++ close_bracket ∷ rest
  pub spelled : IsEnd source text → SpellsItems d 0 prefix values
  pub puts : Puts old new at count nodes
  pub describes : IsEnd source text → DescribesItems d source nodes values

-- Items were read; with the text of further Items after them they spell all of these
pub record ItemsSoFar (d : Dialect) (source text rest : List ℕ) (old new : List Node)
    (at count : ℕ) : Type 0 where
  pub prefix : List ℕ
  pub values : List Item
  pub nodes : List Node
  pub split : text ≡ prefix ++ rest
  pub glue : IsEnd source text → (suffix : List ℕ) (more : List Item) → SpellsItems d 0 suffix more
      → SpellsItems d 0 (prefix ++ suffix) (values ++ more)
  pub puts : Puts old new at count nodes
  pub describes : IsEnd source text → DescribesItems d source nodes values

-- the start of the text spells a member, and nodes that were put describe it
pub record ScansMember (d : Dialect) (source text rest : List ℕ) (place : KeyPlace)
    (old new : List Node) (at count : ℕ) : Type 0 where
  pub prefix : List ℕ
  pub value : Member
  pub nodes : List Node
  pub split : text ≡ prefix ++ rest
  pub spelled : IsEnd source text → SpellsMember d prefix value
  pub puts : Puts old new at count nodes
  pub describes : IsEnd source text → place.at + place.length ≤ length source
      → DescribesMember d source (slice_at place.at place.length source) nodes value

-- the start of the text spells a member of a Dictionary whose key has this mark, and nodes that
-- were put describe it
pub record ScansEntry (d : Dialect) (source text rest : List ℕ) (m : ℕ) (old new : List Node)
    (at count : ℕ) : Type 0 where
  pub prefix : List ℕ
  pub key : List ℕ
  pub value : Member
  pub nodes : List Node
  pub split : text ≡ prefix ++ rest
  pub spelled : IsEnd source text → SpellsEntry d prefix (key, value)
  pub puts : Puts old new at count nodes
  pub describes : IsEnd source text → DescribesMember d source key nodes value
  pub mark : m ≡ mark_of key
