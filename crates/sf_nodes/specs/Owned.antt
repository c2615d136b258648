-- Nodes with the bytes that they point into.
use Rattle.std.specs.Prelude.{ℕ, List}
use Rattle.sf_value.specs.declared.dialect.Dialect.{Dialect}
use Rattle.sf_value.specs.declared.value.Field.{Field}
use Rattle.sf_value.specs.declared.value.Kind.{Kind}
use Rattle.sf_parse.specs.Parsers.{IsOnly}
use Rattle.sf_view.specs.declared.node.Node.{Node}
use Rattle.sf_view.specs.View.{DescribesField}

-- nodes, and the bytes that they point into
pub record NodesInText : Type 0 where
  pub text : List ℕ
  pub nodes : List Node

abbrev pub nodes_in : List ℕ → List Node → NodesInText
nodes_in text nodes = record { text = text; nodes = nodes }

-- the nodes describe the only field of this kind that the text t spells
pub record AreNodesOf (d : Dialect) (kind : Kind) (t : List ℕ) (n : NodesInText) : Type 0 where
  pub value : Field
  pub only : IsOnly d kind t value
  pub describes : DescribesField d n.text n.nodes value
