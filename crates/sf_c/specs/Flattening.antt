-- What parsing a text into nodes returns.
use Rattle.std.specs.Prelude.{◌≡◌, ℕ, ◌+◌, ◌*◌, ◌^◌, ◌<◌, ◌≤◌, ◌++◌, ◌⊎◌, List, length, take}
use Rattle.sf_value.specs.declared.dialect.Dialect.{Dialect}
use Rattle.sf_value.specs.declared.value.Field.{Field}
use Rattle.sf_value.specs.declared.value.Kind.{Kind}
use Rattle.sf_value.specs.Grammar.Words.{Each}
use Rattle.sf_parse.specs.Parsers.{IsOnly}
use Rattle.sf_view.specs.declared.node.Node.{Node}
use Rattle.sf_view.specs.View.{DescribesField}
use Rattle.sf_c.specs.declared.parse.Sizes.{Sizes}
use Rattle.sf_c.specs.declared.refusal.SyntaxRefusal.{SyntaxRefusal}
use Rattle.sf_c.specs.declared.status.Status.{Status}
use Rattle.sf_c.specs.declared.status.Status.TheVariants.{Answered, Refused, Short, OutOfMemory}
use Rattle.sf_c.specs.declared.status.Status.TheVariants.{TooLong, TooMany}
use Rattle.sf_nodes.specs.NodeBytes.{IsDecoded, IsInOne}
use Rattle.sf_nodes.specs.NodeCounts.{field_nodes, field_bytes}
use Rattle.sf_c.specs.Refusals.{SaysRefusal}

-- what parsing into nodes may write to
pub record NodeOutput : Type 0 where
  pub nodes : List Node
  pub bytes : List ℕ
  pub sizes : Sizes
  pub refusal : SyntaxRefusal

-- the value of the text t has few nodes and bytes: nodes are at most four fifths of the length of
-- the text, rounded to the nearest number, and bytes at most eight fifths
abbrev pub IsSmall : List ℕ → Field → Type 0
IsSmall t v = (10 * field_nodes v ≤ 8 * length t + 5) × (5 * field_bytes v ≤ 8 * length t)

-- the first nodes describe the value, with the text t and the first bytes after it
pub record HoldsNodes (d : Dialect) (t : List ℕ) (nodes : List Node) (bytes : List ℕ)
    (sizes : Sizes) (v : Field) : Type 0 where
  pub nodes_fit : sizes.nodes ≤ length nodes
  pub bytes_fit : sizes.bytes ≤ length bytes
  pub describes : DescribesField d (t ++ take sizes.bytes bytes) (take sizes.nodes nodes) v
  pub decoded : Each IsDecoded (take sizes.nodes nodes)
  pub in_one : Each (IsInOne (length t)) (take sizes.nodes nodes)
  pub count : sizes.nodes ≡ field_nodes v

-- the first nodes, with the text t and the first bytes after it, describe the only value that the
-- text spells
abbrev pub IsHeld : Dialect → Kind → List ℕ → List Node → List ℕ → Sizes → Type 0
IsHeld d k t nodes bytes sizes =
    (v : Field) × IsOnly d k t v × IsSmall t v × HoldsNodes d t nodes bytes sizes v

-- a call that does not return the value changes at most the contents of the buffers
abbrev pub KeepsLengths : NodeOutput → NodeOutput → Type 0
KeepsLengths old new =
    (length new.nodes ≡ length old.nodes) × (length new.bytes ≡ length old.bytes)

-- the text spells this value only, which has this number of nodes and of bytes; no offset would be
-- 2^32 or more, so buffers of these sizes are large enough
abbrev pub HasSizes : Dialect → Kind → List ℕ → Sizes → Type 0
HasSizes d k t sizes =
    (v : Field)
    × IsOnly d k t v
    × IsSmall t v
    × (sizes.nodes ≡ field_nodes v)
    × (sizes.bytes ≡ field_bytes v)
    × (length t + sizes.bytes < 2 ^ 32)

-- the starts of the buffers describe the only value that the text t spells; or it has more nodes
-- than the first of them holds; or the second is too small for it; or the struct has the refusal;
-- or an offset would have to be 2^32 or more. A text of 2^32 bytes or more is always too long
abbrev pub Flattens : NodeOutput → NodeOutput → List ℕ → Dialect → Kind → Status → Type 0
Flattens old new t d k Answered =
    (length t < 2 ^ 32)
    × IsHeld d k t new.nodes new.bytes new.sizes
    × KeepsLengths old new
    × (new.refusal ≡ old.refusal)
Flattens old new t d k TooMany =
    HasSizes d k t new.sizes
    × (length old.nodes < new.sizes.nodes)
    × KeepsLengths old new
    × (new.refusal ≡ old.refusal)
Flattens old new t d k Short =
    HasSizes d k t new.sizes
    × (new.sizes.nodes ≤ length old.nodes)
    × (length old.bytes < new.sizes.bytes)
    × KeepsLengths old new
    × (new.refusal ≡ old.refusal)
Flattens old new t d k TooLong =
    ((2 ^ 32 ≤ length t) ⊎ ((v : Field) × IsOnly d k t v × (2 ^ 32 ≤ length t + field_bytes v)))
    × KeepsLengths old new
    × (new.sizes ≡ old.sizes)
    × (new.refusal ≡ old.refusal)
Flattens old new t d k Refused =
    (length t < 2 ^ 32)
    × SaysRefusal d k t new.refusal
    × KeepsLengths old new
    × (new.sizes ≡ old.sizes)
Flattens old new t d k OutOfMemory =
    (length t < 2 ^ 32)
    × KeepsLengths old new
    × (new.sizes ≡ old.sizes)
    × (new.refusal ≡ old.refusal)
Flattens old new t d k status = ⊥
