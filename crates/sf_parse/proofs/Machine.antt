-- The four facts of each level of the machine, lowest level first; `specs/Machine` has the levels.
pub mod Language
pub mod Numbers
pub mod Texts
pub mod Blobs
pub mod Showns
pub mod Bares
pub mod Params
pub mod Items
pub mod Inners
pub mod Series
pub mod Fields
