-- The definitions that the contracts use: requests and arguments, the input and its lines, the
-- texts that are printed, and last what a run reads, answers and writes.
pub mod Status
pub mod Request
pub mod CommandLine
pub mod Commands
pub mod Reading
pub mod Lines
pub mod Fields
pub mod OneLine
pub mod Marks
pub mod Texts
pub mod Tree
pub mod PathLines
pub mod ChoiceLines
pub mod PriorityLine
pub mod Deciding
pub mod Explaining
pub mod Run
pub mod Scanning
