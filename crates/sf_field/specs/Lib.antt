-- The definitions that the contracts use, of field lines and of header maps.
pub mod Lines
pub mod Headers
pub mod Normal
pub mod Laws
pub mod Meaning
pub mod Asking
pub mod Faults
