pub mod Slices
pub mod ContentLemmas
pub mod NodeSteps
pub mod FlatNodes
pub mod NodeCounting
pub mod NodeBound
pub mod OneValue
