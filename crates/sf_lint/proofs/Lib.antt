pub mod Lines
pub mod OptionWords
pub mod CacheWords
pub mod HeadBounds
pub mod WithDecisions
pub mod Seconds
