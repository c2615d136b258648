-- The laws of nodes. Each is the contract of a function in `src/laws.rt`.
use Rattle.std.specs.Prelude.{◌≡◌, ℕ, ◌+◌, ◌*◌, ◌≤◌, List, length}
use Rattle.sf_value.specs.declared.dialect.Dialect.{Dialect}
use Rattle.sf_value.specs.declared.value.Field.{Field}
use Rattle.sf_value.specs.declared.value.Kind.{Kind}
use Rattle.sf_value.specs.Grammar.Fields.{SpellsField, kind_of}
use Rattle.sf_view.specs.declared.node.Node.{Node}
use Rattle.sf_view.specs.View.{DescribesField}
use Rattle.sf_nodes.specs.NodeCounts.{field_nodes, field_bytes}

-- if nodes describe two values of a kind, with the bytes that they point into, these are equal
abbrev pub DescribeOneValue : Type 0
DescribeOneValue =
    (d : Dialect) (source : List ℕ) (nodes : List Node) (v w : Field) → kind_of v ≡ kind_of w
    → DescribesField d source nodes v → DescribesField d source nodes w → v ≡ w

-- nodes that describe a value are as many as the value has
abbrev pub NodesAreTheirs : Type 0
NodesAreTheirs =
    (d : Dialect) (source : List ℕ) (nodes : List Node) (v : Field)
    → DescribesField d source nodes v → length nodes ≡ field_nodes v

-- the nodes of the value of a text are at most four fifths of the text's length, rounded to the
-- nearest number
abbrev pub NodesAreFew : Type 0
NodesAreFew =
    (d : Dialect) (kind : Kind) (t : List ℕ) (v : Field)
    → SpellsField d kind t v → 10 * field_nodes v ≤ 8 * length t + 5

-- the bytes of the value of a text are at most eight fifths of the text's length
abbrev pub BytesAreFew : Type 0
BytesAreFew =
    (d : Dialect) (kind : Kind) (t : List ℕ) (v : Field)
    → SpellsField d kind t v → 5 * field_bytes v ≤ 8 * length t
