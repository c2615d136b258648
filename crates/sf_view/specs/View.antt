-- What nodes that point into a text describe.
use Rattle.std.specs.Prelude.{◌≡◌, ℕ, ℤ, pos, ◌+◌, ◌≤◌, Bool, true, false, List as Seq, [], ◌∷◌}
use Rattle.std.specs.Prelude.{◌++◌, length, take, drop}
use Rattle.sf_value.specs.declared.dialect.Dialect.{Dialect}
use Rattle.sf_value.specs.declared.value.Bare.{Bare}
use Rattle.sf_value.specs.declared.value.Bare.TheVariants.{Integer, Decimal, Text, Token}
use Rattle.sf_value.specs.declared.value.Bare.TheVariants.{Blob, Boolean, Date, Shown}
use Rattle.sf_value.specs.declared.value.Item.{Item}
use Rattle.sf_value.specs.declared.value.Inner.{Inner}
use Rattle.sf_value.specs.declared.value.Member.{Member}
use Rattle.sf_value.specs.declared.value.Member.TheVariants as member
use Rattle.sf_value.specs.declared.value.Field.{Field}
use Rattle.sf_value.specs.declared.value.Field.TheVariants as field
use Rattle.sf_value.specs.Grammar.Pairs.{Pairs}
use Rattle.sf_value.specs.Grammar.BareItems.{SpellsBare}
use Rattle.sf_view.specs.declared.node.Node.{Node}
use Rattle.sf_view.specs.declared.node_types.NodeType.{NodeType}
use Rattle.sf_view.specs.declared.node_types.NodeType.TheVariants as type_is
use Rattle.sf_view.specs.declared.node_types.Role.{Role}
use Rattle.sf_view.specs.declared.node_types.Role.TheVariants as role_is
use Rattle.sf_view.specs.NodeTypes.{role_number, type_number, is_coded}

-- the type of a bare item
abbrev pub type_of : Bare → NodeType
type_of (Integer n) = type_is.Integer
type_of (Decimal m) = type_is.Decimal
type_of (Text s) = type_is.Text
type_of (Token s) = type_is.Token
type_of (Blob s) = type_is.Blob
type_of (Boolean b) = type_is.Boolean
type_of (Date n) = type_is.Date
type_of (Shown s) = type_is.Shown

-- an Integer, the thousandths of a Decimal, the seconds of a Date, or 1 for true; otherwise 0
abbrev pub number_of : Bare → ℤ
number_of (Integer n) = n
number_of (Decimal m) = m
number_of (Boolean true) = pos 1
number_of (Date n) = n
number_of x = pos 0

-- the bytes of a String, a Token, a Byte Sequence or a Display String; otherwise none
abbrev pub text_of : Bare → Seq ℕ
text_of (Text s) = s
text_of (Token s) = s
text_of (Blob s) = s
text_of (Shown s) = s
text_of x = []

-- count bytes at an offset
abbrev pub slice_at : ℕ → ℕ → Seq ℕ → Seq ℕ
slice_at at count bytes = take count (drop at bytes)

-- the bytes of a bare item or, if they are coded, its whole text, which is still to be decoded
abbrev pub DescribesText : Dialect → Bool → Seq ℕ → Bare → Type 0
DescribesText d false raw x = raw ≡ text_of x
DescribesText d true raw x = SpellsBare d raw x

-- a node of this role, key and size describes this bare item
pub record DescribesBare (d : Dialect) (source : Seq ℕ) (r : Role) (k : Seq ℕ) (m : ℕ) (n : Node)
    (x : Bare) : Type 0 where
  pub role : n.role ≡ role_number r
  pub size : n.size ≡ m
  pub key_within : n.key_at + n.key_length ≤ length source
  pub key : slice_at n.key_at n.key_length source ≡ k
  pub node_type : n.node_type ≡ type_number (type_of x)
  pub number : n.number ≡ number_of x
  pub text_within : n.text_at + n.text_length ≤ length source
  pub text : DescribesText d (is_coded n.coded) (slice_at n.text_at n.text_length source) x

-- parameters: a node of this role for each
abbrev pub DescribesParams : Dialect → Seq ℕ → Role → Seq Node → Pairs Bare → Type 0
DescribesParams d source r ns [] = ns ≡ []
DescribesParams d source r ns (p ∷ ps) =
    (n : Node) × (ms : Seq Node)
    × (ns ≡ n ∷ ms)
    × DescribesBare d source r p.0 1 n p.1
    × DescribesParams d source r ms ps

-- an Item: its bare item, then its parameters
abbrev pub DescribesItem : Dialect → Seq ℕ → Role → Seq ℕ → Seq Node → Item → Type 0
DescribesItem d source role key ns i =
    (n : Node) × (ms : Seq Node)
    × (ns ≡ n ∷ ms)
    × DescribesBare d source role key (1 + length ms) n i.bare
    × DescribesParams d source role_is.Parameter ms i.params

-- the Items of an Inner List
abbrev pub DescribesItems : Dialect → Seq ℕ → Seq Node → Seq Item → Type 0
DescribesItems d source ns [] = ns ≡ []
DescribesItems d source ns (i ∷ is) =
    (prefix suffix : Seq Node)
    × (ns ≡ prefix ++ suffix)
    × DescribesItem d source role_is.InnerItem [] prefix i
    × DescribesItems d source suffix is

-- the node of an Inner List of this size: it has neither a number nor bytes
pub record DescribesOpening (source : Seq ℕ) (k : Seq ℕ) (m : ℕ) (n : Node) : Type 0 where
  pub role : n.role ≡ role_number role_is.Member
  pub size : n.size ≡ m
  pub key_within : n.key_at + n.key_length ≤ length source
  pub key : slice_at n.key_at n.key_length source ≡ k
  pub node_type : n.node_type ≡ type_number type_is.InnerList
  pub number : n.number ≡ pos 0
  pub empty : n.text_length ≡ 0

-- an Inner List: its node, the Items, then the parameters
abbrev pub DescribesInner : Dialect → Seq ℕ → Seq ℕ → Seq Node → Inner → Type 0
DescribesInner d source key ns l =
    (n : Node) × (items params : Seq Node)
    × (ns ≡ n ∷ (items ++ params))
    × DescribesOpening source key (1 + length (items ++ params)) n
    × DescribesItems d source items l.items
    × DescribesParams d source role_is.InnerParameter params l.params

-- a member, with the key that it has in a Dictionary
abbrev pub DescribesMember : Dialect → Seq ℕ → Seq ℕ → Seq Node → Member → Type 0
DescribesMember d source key ns (member.Item i) = DescribesItem d source role_is.Member key ns i
DescribesMember d source key ns (member.Inner l) = DescribesInner d source key ns l

-- the members of a List
abbrev pub DescribesMembers : Dialect → Seq ℕ → Seq Node → Seq Member → Type 0
DescribesMembers d source ns [] = ns ≡ []
DescribesMembers d source ns (m ∷ ms) =
    (prefix suffix : Seq Node)
    × (ns ≡ prefix ++ suffix)
    × DescribesMember d source [] prefix m
    × DescribesMembers d source suffix ms

-- parts with keys: some nodes describe each as P says
abbrev pub DescribesPairs : {X : Type 0} → (Seq ℕ → Seq Node → X → Type 0) → Seq Node → Pairs X
    → Type 0
DescribesPairs P ns [] = ns ≡ []
DescribesPairs P ns (p ∷ ps) =
    (prefix suffix : Seq Node)
    × (ns ≡ prefix ++ suffix)
    × P p.0 prefix p.1
    × DescribesPairs P suffix ps

-- the members of a Dictionary
abbrev pub DescribesEntries : Dialect → Seq ℕ → Seq Node → Pairs Member → Type 0
DescribesEntries d source ns ps = DescribesPairs (DescribesMember d source) ns ps

-- a field
abbrev pub DescribesField : Dialect → Seq ℕ → Seq Node → Field → Type 0
DescribesField d source ns (field.Item i) = DescribesItem d source role_is.Member [] ns i
DescribesField d source ns (field.List l) = DescribesMembers d source ns l.members
DescribesField d source ns (field.Dict m) = DescribesEntries d source ns m.members
