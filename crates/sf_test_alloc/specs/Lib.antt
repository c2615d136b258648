-- What the calls under scarcity showed.
pub mod Calls
