-- The nodes of a Dictionary in which a key is repeated.
use Rattle.std.specs.Prelude.{◌/◌, ◌^◌, Bool, ◌≡◌, ◌≢◌, ℕ, ◌+◌, ◌-◌, ◌≤◌, ◌<◌, true, false, List as Seq, []}
use Rattle.std.specs.Prelude.{◌∷◌, ◌++◌, length, take, drop, get_or, bit_and, Option, IfSome}
use Rattle.sf_value.specs.declared.dialect.Dialect.{Dialect}
use Rattle.sf_value.specs.declared.value.Kind.{Kind}
use Rattle.sf_value.specs.declared.value.Kind.TheVariants as kind_is
use Rattle.sf_value.specs.declared.value.Member.{Member}
use Rattle.sf_value.specs.Grammar.Fields.{dict_of}
use Rattle.sf_value.specs.Grammar.Pairs.{Pairs, settle}
use Rattle.sf_parse.specs.Parsers.{IsOnly}
use Rattle.sf_view.specs.declared.node.Node.{Node}
use Rattle.sf_view.specs.View.{slice_at, DescribesMember, DescribesEntries}
use Rattle.sf_view.specs.Accepts.{Accepts}
use Rattle.sf_view.specs.Keys.{tag_of}

-- the text spells a Dictionary and no other, and the nodes describe its members one by one, as they
-- are in the text
pub record IsRaw (d : Dialect) (kind : Kind) (text : Seq ℕ) (nodes : Seq Node) : Type 0 where
  pub is_dict : kind ≡ kind_is.Dict
  pub raw : Pairs Member
  pub only : IsOnly d kind text (dict_of (settle raw))
  pub describes : DescribesEntries d text nodes raw

-- the text spells a field and no other, and the first nodes, count many, describe it or, if a key is
-- repeated, its members one by one
pub record HasParts (d : Dialect) (kind : Kind) (text : Seq ℕ) (nodes : Seq Node) (count : ℕ)
    (repeated : Bool) : Type 0 where
  pub within : count ≤ length nodes
  pub described : repeated ≡ false → Accepts d kind text nodes count
  pub raw : repeated ≡ true → IsRaw d kind text (take count nodes)

-- the nodes of the first part
abbrev pub first_part : Seq Node → Seq Node
first_part [] = []
first_part (n ∷ ns) = take n.size (n ∷ ns)

-- the key of the first part
abbrev pub first_key_of : Seq ℕ → Seq Node → Seq ℕ
first_key_of source [] = []
first_key_of source (n ∷ ns) = slice_at n.key_at n.key_length source

-- the nodes of the part that starts at this node
abbrev pub run_from : Seq Node → ℕ → Seq Node
run_from nodes start = first_part (drop start nodes)

-- its key
abbrev pub key_from : Seq ℕ → Seq Node → ℕ → Seq ℕ
key_from source nodes start = first_key_of source (drop start nodes)

-- the nodes of the parts that start at these nodes, in this order
abbrev pub runs_of : Seq Node → Seq ℕ → Seq Node
runs_of nodes [] = []
runs_of nodes (s ∷ ss) = run_from nodes s ++ runs_of nodes ss

-- the parts that start at these nodes are these members
abbrev pub RunsDescribe : Dialect → Seq ℕ → Seq Node → Seq ℕ → Pairs Member → Type 0
RunsDescribe d source nodes [] ps = ps ≡ []
RunsDescribe d source nodes (s ∷ ss) [] = ⊥
RunsDescribe d source nodes (s ∷ ss) (p ∷ ps) =
    DescribesMember d source p.0 (run_from nodes s) p.1 × RunsDescribe d source nodes ss ps

-- the place of the part with this key among the parts that start at these nodes; if there is none,
-- that after the last
pub record IsPlace (source : Seq ℕ) (nodes : Seq Node) (order k : Seq ℕ) (p : ℕ) : Type 0 where
  pub within : p ≤ length order
  pub found : p < length order → key_from source nodes (get_or order p 0) ≡ k
  pub absent : p ≡ length order → (i : ℕ) → i < length order
      → key_from source nodes (get_or order i 0) ≢ k

-- the slot of a tag at this step
abbrev pub slot_in : Seq ℕ → ℕ → ℕ → ℕ
slot_in table t step = bit_and (t / 2 ^ 4 + step) (length table - 1)

-- one of the tag's slots has this place, and no slot before that is empty
pub record HoldsPlace (table : Seq ℕ) (t p : ℕ) : Type 0 where
  pub step : ℕ
  pub there : get_or table (slot_in table t step) 0 ≡ p + 1
  pub before : (i : ℕ) → i < step → get_or table (slot_in table t i) 0 ≢ 0

-- the table has the place of each of the parts that start at these nodes
abbrev pub HoldsPlaces : Seq ℕ → Seq Node → Seq ℕ → Seq ℕ → Type 0
HoldsPlaces source nodes table order = (p : ℕ) → p < length order
    → HoldsPlace table (tag_of (key_from source nodes (get_or order p 0))) p

-- the same of a table that is used; one without slots is not
abbrev pub IsIndex : Seq ℕ → Seq Node → Seq ℕ → Seq ℕ → Type 0
IsIndex source nodes table order = 1 ≤ length table → HoldsPlaces source nodes table order

-- whatever members the raw nodes describe, the first nodes, as many as returned, describe those
-- that stay
abbrev pub Settles : Seq ℕ → Seq Node → Seq Node → Option ℕ → Type 0
Settles source raw nodes r = (d : Dialect) (ps : Pairs Member) → DescribesEntries d source raw ps
    → IfSome r (λ n. DescribesEntries d source (take n nodes) (settle ps))
