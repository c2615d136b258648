-- Looking up a member of a Dictionary among its nodes.
use Rattle.std.specs.Prelude.{◌≡◌, ℕ, ◌+◌, ◌≤◌, List, [], ◌∷◌, ◌++◌, ◌<◌, length, Some, ◌≢◌}
use Rattle.sf_value.specs.declared.dialect.Dialect.{Dialect}
use Rattle.sf_value.specs.declared.value.Member.{Member}
use Rattle.sf_value.specs.Grammar.Pairs.{Pairs, value_at}
use Rattle.sf_value.specs.Grammar.Words.{Each}
use Rattle.sf_view.specs.declared.node.Node.{Node}
use Rattle.sf_value.specs.declared.value.Bare.{Bare}
use Rattle.sf_view.specs.declared.node_types.NodeType.TheVariants as type_is
use Rattle.sf_view.specs.declared.node_types.Role.{Role}
use Rattle.sf_view.specs.declared.node_types.Role.TheVariants as role_is
use Rattle.sf_view.specs.NodeTypes.{role_number, type_number}
use Rattle.sf_view.specs.View.{slice_at, DescribesMember, DescribesParams}

-- the member with this key, which the nodes describe
pub record Finds (d : Dialect) (source key : List ℕ) (ps : Pairs Member) (ns : List Node)
    : Type 0 where
  pub value : Member
  pub there : value_at key ps ≡ Some value
  pub describes : DescribesMember d source key ns value

-- the parameter with this key, which the node describes
pub record FindsParam (d : Dialect) (source key : List ℕ) (r : Role) (ps : Pairs Bare)
    (ns : List Node) : Type 0 where
  pub value : Bare
  pub there : value_at key ps ≡ Some value
  pub describes : DescribesParams d source r ns ((key, value) ∷ [])

-- prefix has the nodes of the first part, which has the key k; later has the nodes after it
pub record IsHop (source : List ℕ) (nodes : List Node) (k : List ℕ) (prefix later : List Node)
    : Type 0 where
  pub first : Node
  pub more : List Node
  pub begins : prefix ≡ first ∷ more
  pub split : nodes ≡ prefix ++ later
  pub key : k ≡ slice_at first.key_at first.key_length source
  pub size : length prefix ≡ first.size

-- there is no node, or the key of the first is not in the source, or its size is 0 or more than the
-- number of nodes
abbrev pub NoHop : List ℕ → List Node → Type 0
NoHop source [] = Unit {0}
NoHop source (n ∷ ns) =
    n.key_at + n.key_length ≤ length source → 1 ≤ n.size → n.size ≤ length (n ∷ ns) → ⊥

-- the first node points to this key
pub record StartsWithKey (source : List ℕ) (nodes : List Node) (k : List ℕ) : Type 0 where
  pub first : Node
  pub more : List Node
  pub begins : nodes ≡ first ∷ more
  pub key : k ≡ slice_at first.key_at first.key_length source

-- there is no node, or the key of the first is not in the source
abbrev pub NoKey : List ℕ → List Node → Type 0
NoKey source [] = Unit {0}
NoKey source (n ∷ ns) = length source < n.key_at + n.key_length

-- the node is not a parameter of an Inner List
abbrev pub IsInside : Node → Type 0
IsInside n = n.role ≢ role_number role_is.InnerParameter

-- there is no node, or the first is a parameter of an Inner List
abbrev pub IsAtParams : List Node → Type 0
IsAtParams [] = Unit {0}
IsAtParams (n ∷ ns) = n.role ≡ role_number role_is.InnerParameter

-- the node of an Inner List, the nodes up to its parameters, and those of its parameters
pub record IsSplitAtParams (nodes items params : List Node) : Type 0 where
  pub opening : Node
  pub split : nodes ≡ opening ∷ (items ++ params)
  pub is_inner : opening.node_type ≡ type_number type_is.InnerList
  pub before : Each IsInside items
  pub behind : IsAtParams params

-- the first node, if there is one, is not that of an Inner List
abbrev pub IsNoInner : List Node → Type 0
IsNoInner [] = Unit {0}
IsNoInner (n ∷ ns) = n.node_type ≢ type_number type_is.InnerList
