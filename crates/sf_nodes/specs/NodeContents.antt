-- What the parts of a value describe before they become nodes, and the nodes that they become, for
-- the clauses of `flatten` and `Flat`.
use Rattle.std.specs.Prelude.{◌≡◌, ℕ, ℤ, ◌+◌, ◌^◌, ◌<◌, ◌≤◌, List, [], ◌∷◌, length, map}
use Rattle.sf_view.specs.declared.node.Node.{Node}
use Rattle.sf_view.specs.declared.node_types.NodeType.{NodeType}
use Rattle.sf_view.specs.declared.node_types.Role.{Role}
use Rattle.sf_view.specs.NodeTypes.{role_number, type_number}
use Rattle.sf_view.specs.View.{slice_at}
use Rattle.sf_nodes.specs.declared.parts.Part.{Part}

-- a part of a value: its role, type, number, key, bytes and size
pub record NodeContent : Type 0 where
  pub role : Role
  pub node_type : NodeType
  pub number : ℤ
  pub key : List ℕ
  pub text : List ℕ
  pub size : ℕ

-- what a part that points into these bytes describes
abbrev pub content_by : List ℕ → Part → NodeContent
content_by bytes p = record {
  role = p.role;
  node_type = p.node_type;
  number = p.number;
  key = slice_at p.key_at p.key_length bytes;
  text = slice_at p.text_at p.text_length bytes;
  size = p.size;
}

-- the part points to bytes within these
abbrev pub IsWithin : List ℕ → Part → Type 0
IsWithin bytes p =
    (p.key_at + p.key_length ≤ length bytes) × (p.text_at + p.text_length ≤ length bytes)

-- each part points to bytes within these
abbrev pub AreWithin : List ℕ → List Part → Type 0
AreWithin bytes [] = Unit {0}
AreWithin bytes (p ∷ ps) = IsWithin bytes p × AreWithin bytes ps

-- the number of bytes that the keys and the bytes of parts have together
abbrev pub content_size : List NodeContent → ℕ
content_size [] = 0
content_size (t ∷ ts) = length t.key + length t.text + content_size ts

-- the parts point to bytes within these, and have as many bytes together as there are
abbrev pub HoldsUp : List ℕ → List Part → Type 0
HoldsUp bytes ps = AreWithin bytes ps × (length bytes ≡ content_size (map (content_by bytes) ps))

-- the node of a part whose bytes follow a text of this length
abbrev pub node_of : ℕ → Part → Node
node_of start p = record {
  number = p.number;
  key_at = start + p.key_at;
  key_length = p.key_length;
  text_at = start + p.text_at;
  text_length = p.text_length;
  size = p.size;
  node_type = type_number p.node_type;
  role = role_number p.role;
  coded = 0;
}

-- the key and the bytes of the node of a part, after a text of this length, end below 2^32
abbrev pub IsPartSmall : ℕ → Part → Type 0
IsPartSmall start p =
    (start + p.key_at + p.key_length < 2 ^ 32) × (start + p.text_at + p.text_length < 2 ^ 32)
