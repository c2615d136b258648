-- The number of nodes of a value, and the number of bytes of its keys and texts: the definitions of
-- `sf_view`.
pub use Rattle.sf_view.specs.NodeCounts.{item_nodes, items_nodes, member_nodes, members_nodes}
pub use Rattle.sf_view.specs.NodeCounts.{entries_nodes, field_nodes, params_bytes, item_bytes}
pub use Rattle.sf_view.specs.NodeCounts.{items_bytes, member_bytes, members_bytes, entries_bytes}
pub use Rattle.sf_view.specs.NodeCounts.{field_bytes}
