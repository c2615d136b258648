-- How many nodes and bytes the value of a text has, or of the start of a text up to the rest.
use Rattle.std.specs.Prelude.{◌≡◌, ℕ, ◌+◌, List, [], ◌∷◌, length}
use Rattle.sf_value.specs.Ascii.{close_bracket}
use Rattle.sf_value.specs.declared.dialect.Dialect.{Dialect}
use Rattle.sf_value.specs.declared.value.Field.{Field}
use Rattle.sf_value.specs.declared.value.Inner.{Inner}
use Rattle.sf_value.specs.declared.value.Kind.{Kind}
use Rattle.sf_value.specs.Grammar.Pairs.{Pairs}
use Rattle.sf_value.specs.Grammar.Parameters.{SpellsParams}
use Rattle.sf_value.specs.Grammar.Items.{SpellsItem}
use Rattle.sf_value.specs.Grammar.InnerLists.{SpellsInner, SpellsItems, SpellsMember}
use Rattle.sf_value.specs.Grammar.Fields.{SpellsEntry}
use Rattle.sf_parse.specs.Parsers.{IsOnly}
use Rattle.sf_view.specs.declared.counting.Counts.{Counts}
use Rattle.sf_view.specs.Reads.{Reads}
use Rattle.sf_view.specs.NodeCounts.{item_nodes, items_nodes, member_nodes, field_nodes}
use Rattle.sf_view.specs.NodeCounts.{params_bytes, item_bytes, items_bytes, member_bytes, field_bytes}

-- the text spells this value and no other, which has so many nodes and bytes
pub record HasCounts (d : Dialect) (kind : Kind) (t : List ℕ) (c : Counts) : Type 0 where
  pub value : Field
  pub only : IsOnly d kind t value
  pub nodes : c.nodes ≡ field_nodes value
  pub bytes : c.bytes ≡ field_bytes value

-- the start of the text, up to the rest, spells something as P says that has n nodes and b bytes
pub record CountsPart {X : Type 0} (P : List ℕ → X → Type 0) (nodes_of bytes_of : X → ℕ)
    (text rest : List ℕ) (n b : ℕ) : Type 0 where
  pub reads : Reads P text rest
  pub nodes : n ≡ nodes_of reads.value
  pub bytes : b ≡ bytes_of reads.value

-- parameters
abbrev pub CountsParams : Dialect → List ℕ → List ℕ → ℕ → ℕ → Type 0
CountsParams d = CountsPart (SpellsParams d) (λ ps. length ps) params_bytes

-- an Item
abbrev pub CountsItem : Dialect → List ℕ → List ℕ → ℕ → ℕ → Type 0
CountsItem d = CountsPart (SpellsItem d) item_nodes item_bytes

-- an Inner List has one node, and those of its Items and parameters; its bytes are theirs
abbrev pub inner_nodes : Inner → ℕ
inner_nodes l = 1 + items_nodes l.items + length l.params

abbrev pub inner_bytes : Inner → ℕ
inner_bytes l = items_bytes l.items + params_bytes l.params

-- an Inner List
abbrev pub CountsInner : Dialect → List ℕ → List ℕ → ℕ → ℕ → Type 0
CountsInner d = CountsPart (SpellsInner d) inner_nodes inner_bytes

-- a member
abbrev pub CountsMember : Dialect → List ℕ → List ℕ → ℕ → ℕ → Type 0
CountsMember d = CountsPart (SpellsMember d) member_nodes member_bytes

-- the Items of an Inner List, after at least this many spaces, and a closing bracket follows
abbrev pub CountsItems : Dialect → ℕ → List ℕ → List ℕ → ℕ → ℕ → Type 0
CountsItems d least text rest =
    CountsPart (SpellsItems d least) items_nodes items_bytes text (close_bracket ∷ rest)

-- a member of a Dictionary with this key, whose value has so many nodes and bytes
abbrev pub CountsEntry : Dialect → List ℕ → List ℕ → List ℕ → ℕ → ℕ → Type 0
CountsEntry d text key =
    CountsPart (λ t m. SpellsEntry d t (key, m)) member_nodes member_bytes text

-- the nodes that are kept at keys, together, and the bytes with those of the keys
abbrev pub sum_nodes : Pairs Counts → ℕ
sum_nodes [] = 0
sum_nodes (p ∷ ps) = p.1.nodes + sum_nodes ps

abbrev pub sum_bytes : Pairs Counts → ℕ
sum_bytes [] = 0
sum_bytes (p ∷ ps) = length p.0 + p.1.bytes + sum_bytes ps

-- the nodes and the bytes are these together
abbrev pub IsSum : Counts → Pairs Counts → Type 0
IsSum c ps = (c.nodes ≡ sum_nodes ps) × (c.bytes ≡ sum_bytes ps)
