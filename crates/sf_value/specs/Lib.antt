-- The definitions that the contracts use. `Grammar` defines texts and values, which a reader has to
-- judge; the others say what the calls of this crate do.
pub mod Ascii
pub mod Grammar
pub mod Runs
pub mod Digits
pub mod Entries
pub mod Stores
pub mod Capacities
pub mod Lending
pub mod Faults
pub mod InPlace
pub mod InPlaceValues
pub mod BareBytes
pub mod Devices
pub mod Laws
pub mod Lookups
pub mod Equality
pub mod Deciding
