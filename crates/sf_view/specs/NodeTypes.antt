-- The numbers of the roles and the types of nodes.
use Rattle.std.specs.Prelude.{ℕ, Bool, true, false, not, ◌==◌}
use Rattle.sf_view.specs.declared.node_types.NodeType.{NodeType}
use Rattle.sf_view.specs.declared.node_types.NodeType.TheVariants.{InnerList, Integer, Decimal, Text}
use Rattle.sf_view.specs.declared.node_types.NodeType.TheVariants.{Token, Blob, Boolean, Date, Shown}
use Rattle.sf_view.specs.declared.node_types.Role.{Role}
use Rattle.sf_view.specs.declared.node_types.Role.TheVariants.{Member, InnerItem, Parameter}
use Rattle.sf_view.specs.declared.node_types.Role.TheVariants.{InnerParameter}

-- the number of a role; no type has the same
abbrev pub role_number : Role → ℕ
role_number Member = 11
role_number InnerItem = 12
role_number Parameter = 13
role_number InnerParameter = 14

abbrev pub type_number : NodeType → ℕ
type_number InnerList = 21
type_number Integer = 22
type_number Decimal = 23
type_number Text = 24
type_number Token = 25
type_number Blob = 26
type_number Boolean = 27
type_number Date = 28
type_number Shown = 29

-- whether bytes are coded, by the field coded of a node
abbrev pub is_coded : ℕ → Bool
is_coded n = not (n == 0)

abbrev pub coded_number : Bool → ℕ
coded_number true = 1
coded_number false = 0
