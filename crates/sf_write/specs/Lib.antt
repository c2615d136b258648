-- The definitions that the contracts use. The canonical texts are those of `sf_value`.
pub mod Writing
pub mod Formats
pub mod Gathered
