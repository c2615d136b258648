-- Nodes whose coded bytes are decoded after the text.
use Rattle.std.specs.Prelude.{◌≡◌, ℕ, ◌≤◌, true, List, [], ◌∷◌, ◌++◌, ◌⊎◌, length, take}
use Rattle.sf_value.specs.declared.dialect.Dialect.{Dialect}
use Rattle.sf_value.specs.declared.value.Bare.{Bare}
use Rattle.sf_value.specs.Grammar.Words.{Each}
use Rattle.sf_view.specs.declared.node.Node.{Node}
use Rattle.sf_view.specs.declared.node_types.NodeType.TheVariants.{Text, Blob, Shown}
use Rattle.sf_view.specs.declared.node_types.Role.{Role}
use Rattle.sf_view.specs.declared.view.Slice.{Slice}
use Rattle.sf_view.specs.NodeTypes.{type_number}
use Rattle.sf_view.specs.View.{slice_at, DescribesBare, DescribesOpening}
use Rattle.sf_nodes.specs.NodeBytes.{IsDecoded, IsInOne}

-- whatever the first node describes with one source, the second describes with the other
pub record Means (old new : List ℕ) (n m : Node) : Type 0 where
  pub bare : (d : Dialect) (r : Role) (k : List ℕ) (size : ℕ) (x : Bare)
      → DescribesBare d old r k size n x → DescribesBare d new r k size m x
  pub opening : (k : List ℕ) (size : ℕ) → DescribesOpening old k size n
      → DescribesOpening new k size m

-- each node of the second list, with its source, describes what the node at its index in the first
-- describes
abbrev pub EachMeans : List ℕ → List ℕ → List Node → List Node → Type 0
EachMeans old new [] [] = Unit {0}
EachMeans old new (n ∷ ns) (m ∷ ms) = Means old new n m × EachMeans old new ns ms
EachMeans old new ns ms = ⊥

-- the node, uncoded, with count bytes at this offset
abbrev pub decoded_to : ℕ → ℕ → Node → Node
decoded_to at count n = record {
  number = n.number;
  key_at = n.key_at;
  key_length = n.key_length;
  text_at = at;
  text_length = count;
  size = n.size;
  node_type = n.node_type;
  role = n.role;
  coded = 0;
}

-- the node is decoded, and its bytes are in the text, or after the text
abbrev pub IsUncoded : ℕ → Node → Type 0
IsUncoded size n = IsDecoded n × IsInOne size n

-- the new nodes, with the first of these bytes after the text, mean what the old ones mean
pub record AreDecoded (text : List ℕ) (old new : List Node) (bytes : List ℕ) (used : ℕ)
    : Type 0 where
  pub within : used ≤ length bytes
  pub means : EachMeans text (text ++ take used bytes) old new
  pub uncoded : Each (IsUncoded (length text)) new

-- the node m, with more bytes after the text, up to this end, means what the node n means
pub record IsNodeDecoded (text old new : List ℕ) (used : ℕ) (n m : Node) (end : ℕ)
    : Type 0 where
  pub more : used ≤ end
  pub within : end ≤ length new
  pub kept : take used new ≡ take used old
  pub means : Means text (text ++ take end new) n m
  pub uncoded : IsUncoded (length text) m

-- the slice has the coded bytes of a String, a Byte Sequence or a Display String
pub record HasCoded (text : List ℕ) (n : Node) (s : Slice) : Type 0 where
  pub node_type : (n.node_type ≡ type_number Text) ⊎ (n.node_type ≡ type_number Blob)
      ⊎ (n.node_type ≡ type_number Shown)
  pub coded : s.coded ≡ true
  pub bytes : s.bytes.now ≡ slice_at n.text_at n.text_length text
