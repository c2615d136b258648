pub mod Joining
pub mod Following
pub mod Runs
pub mod Base64Text
pub mod CanonSteps
pub mod ValidParts
pub mod AsciiTexts
pub mod FormattedTexts
