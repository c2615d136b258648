-- How nodes of any origin are read.
use Rattle.std.specs.Prelude.{◌≡◌, ◌≢◌, ℕ, suc, ◌+◌, ◌-◌, ◌≤◌, List as Seq, [], ◌∷◌, ◌++◌, length}
use Rattle.std.specs.Prelude.{take, Option, Some, None, Result, Ok, Err, slice_index, ℤ, Bool, true, false}
use Rattle.sf_value.specs.Ascii.{space}
use Rattle.sf_value.specs.declared.dialect.Dialect.{Dialect}
use Rattle.sf_value.specs.declared.dialect.Dialect.TheVariants.{Rfc8941, Rfc9651}
use Rattle.sf_value.specs.declared.value.Bare.{Bare}
use Rattle.sf_value.specs.declared.value.Item.{Item}
use Rattle.sf_value.specs.declared.value.Inner.{Inner}
use Rattle.sf_value.specs.declared.value.Member.{Member}
use Rattle.sf_value.specs.declared.value.Field.{Field}
use Rattle.sf_value.specs.declared.value.Field.TheVariants as field
use Rattle.sf_value.specs.declared.value.Kind.{Kind}
use Rattle.sf_value.specs.declared.value.Kind.TheVariants as kind
use Rattle.sf_value.specs.Grammar.Pairs.{Pairs}
use Rattle.sf_value.specs.Grammar.Valid.{Valid, ValidBare, ValidParams, ValidItem, ValidInner}
use Rattle.sf_value.specs.Grammar.Valid.{ValidMember, ValidEntries}
use Rattle.sf_value.specs.Grammar.Words.{Each}
use Rattle.sf_view.specs.declared.node.Node.{Node}
use Rattle.sf_view.specs.declared.node_types.NodeType.{NodeType}
use Rattle.sf_view.specs.declared.node_types.NodeType.TheVariants as type_is
use Rattle.sf_view.specs.declared.node_types.Role.{Role}
use Rattle.sf_view.specs.declared.node_types.Role.TheVariants as role_is
use Rattle.sf_view.specs.declared.building.NoField.{NoField}
use Rattle.sf_view.specs.declared.building.NoField.TheVariants.{OutOfMemory, Invalid}
use Rattle.sf_view.specs.NodeTypes.{role_number, type_number, is_coded}
use Rattle.sf_view.specs.View.{slice_at, DescribesBare, DescribesParams, DescribesItem, DescribesItems}
use Rattle.sf_view.specs.View.{DescribesInner, DescribesMember, DescribesMembers, DescribesEntries}
use Rattle.sf_view.specs.View.{DescribesField}
use Rattle.sf_view.specs.Views.{NodeShows}

-- the node at this index is wrong: P holds for no nodes of the same number that agree with these up
-- to and including the index. The index is 0 if there are no nodes
pub record IsWrongAt {X : Type 0} (P : Seq Node → X → Type 0) (nodes : Seq Node) (index : ℕ)
    : Type 0 where
  pub within : index ≤ length nodes - 1
  pub stuck : (others : Seq Node) → length others ≡ length nodes
      → take (suc index) others ≡ take (suc index) nodes → (x : X) → P others x → ⊥

-- P holds for the nodes and the value, or the node at the index is wrong
abbrev pub Reads : {X : Type 0} → (Seq Node → X → Type 0) → Seq Node → Result X NoField → Type 0
Reads P nodes (Ok x) = P nodes x
Reads P nodes (Err OutOfMemory) = Unit {0}
Reads P nodes (Err (Invalid index)) = IsWrongAt P nodes index

-- the nodes describe this field, and it is a valid one of the kind
abbrev pub IsField : Dialect → Kind → Seq ℕ → Seq Node → Field → Type 0
IsField d kind source ns v = DescribesField d source ns v × Valid d kind v

-- the nodes describe this Item field, and it is valid
abbrev pub IsItemField : Dialect → Seq ℕ → Seq Node → Item → Type 0
IsItemField d source ns i = IsField d kind.Item source ns (field.Item i)

-- a value for which P holds, or None if it holds for no value
abbrev pub Gives : {X : Type 0} → (X → Type 0) → Option X → Type 0
Gives P (Some x) = P x
Gives P None = (x : _) → P x → ⊥

-- a node that points to these bytes describes this bare item, which is valid
abbrev pub IsBare : Dialect → Node → Seq ℕ → Bare → Type 0
IsBare d n bytes x = NodeShows d n bytes x × ValidBare d x

-- the key of the first node
abbrev pub first_key : Seq ℕ → Seq Node → Seq ℕ
first_key source [] = []
first_key source (n ∷ ns) = slice_at n.key_at n.key_length source

-- the node, of this role and size, describes this bare item, which is valid, whatever its key
abbrev pub IsValue : Dialect → Seq ℕ → Role → ℕ → Node → Bare → Type 0
IsValue d source r m n x =
    DescribesBare d source r (slice_at n.key_at n.key_length source) m n x × ValidBare d x

-- the nodes, of this role, describe these parameters, which are valid
abbrev pub AreParams : Dialect → Seq ℕ → Role → Seq Node → Pairs Bare → Type 0
AreParams d source r ns ps = DescribesParams d source r ns ps × ValidParams d ps

-- one node of this role describes this value of a parameter, which is valid, whatever its key
abbrev pub IsParam : Dialect → Seq ℕ → Role → Seq Node → Bare → Type 0
IsParam d source r ns x = (n : Node) × (ns ≡ n ∷ []) × IsValue d source r 1 n x

-- the nodes describe this Item, of this role, which is valid, whatever its key
abbrev pub IsItem : Dialect → Seq ℕ → Role → Seq Node → Item → Type 0
IsItem d source r ns i = DescribesItem d source r (first_key source ns) ns i × ValidItem d i

-- the nodes describe the Items and the parameters of this Inner List, which is valid
abbrev pub IsInside : Dialect → Seq ℕ → Seq Node → Inner → Type 0
IsInside d source ns l =
    (items params : Seq Node)
    × (ns ≡ items ++ params)
    × DescribesItems d source items l.items
    × DescribesParams d source role_is.InnerParameter params l.params
    × ValidInner d l

-- the nodes describe this Inner List, which is valid, whatever its key
abbrev pub IsInner : Dialect → Seq ℕ → Seq Node → Inner → Type 0
IsInner d source ns l = DescribesInner d source (first_key source ns) ns l × ValidInner d l

-- the nodes describe this member, which is valid, whatever its key
abbrev pub IsMember : Dialect → Seq ℕ → Seq Node → Member → Type 0
IsMember d source ns m = DescribesMember d source (first_key source ns) ns m × ValidMember d m

-- the nodes describe these members of a List, which are valid
abbrev pub AreMembers : Dialect → Seq ℕ → Seq Node → Seq Member → Type 0
AreMembers d source ns ms = DescribesMembers d source ns ms × Each (ValidMember d) ms

-- the nodes describe these members of a Dictionary, which are valid
abbrev pub AreEntries : Dialect → Seq ℕ → Seq Node → Pairs Member → Type 0
AreEntries d source ns ps = DescribesEntries d source ns ps × ValidEntries d ps

-- the text neither begins nor ends with a space
pub record IsTight (t : Seq ℕ) : Type 0 where
  pub first : slice_index t 0 ≢ space
  pub last : slice_index t (length t - 1) ≢ space

-- the node has this type and this number, and, if they are not coded, these bytes
pub record AgreesWith (n : Node) (bytes : Seq ℕ) (t : NodeType) (value : ℤ) (own : Seq ℕ)
    : Type 0 where
  pub node_type : n.node_type ≡ type_number t
  pub number : n.number ≡ value
  pub uncoded : is_coded n.coded ≡ false → bytes ≡ own

-- whether the dialect has bare items of this type
abbrev pub is_type_in : Dialect → NodeType → Bool
is_type_in Rfc9651 t = true
is_type_in Rfc8941 type_is.Date = false
is_type_in Rfc8941 type_is.Shown = false
is_type_in Rfc8941 t = true

-- the first node is one of an Item of an Inner List
abbrev pub StartsItem : Seq Node → Type 0
StartsItem [] = ⊥
StartsItem (n ∷ ns) = n.role ≡ role_number role_is.InnerItem

-- the same fault, after count more nodes
abbrev pub shift_fault : ℕ → NoField → NoField
shift_fault count OutOfMemory = OutOfMemory
shift_fault count (Invalid index) = Invalid (count + index)
