pub mod BareInPlaces
pub mod Words
pub mod Faults
pub mod Tables
pub mod ByteTables
pub mod DigitValues
pub mod Runs
mod Vectors
pub mod ByteLists
mod Rows
pub mod EntryMaps
pub mod SlotLists
pub mod Settling
pub mod Removals
pub mod Changes
pub mod Utf8Table
pub mod CanonicalTexts
pub mod Validity
pub mod SettledWeight
pub mod LengthBound
pub mod EmptyTexts
pub mod BothDialects
pub mod Gives
pub mod TextBytes
