-- What nodes of a field describe, how many there are, and where their bytes are.
pub mod NodeBytes
pub mod NodeContents
pub mod NodeCounts
pub mod Nodes
pub mod Owned
pub mod Laws
