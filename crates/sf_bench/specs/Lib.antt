-- The definitions that the contracts use. How texts spell values is defined in `sf_value`.
pub mod Timed
