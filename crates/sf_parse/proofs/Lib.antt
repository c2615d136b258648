-- To read in this order. The machine level by level, then what follows for any machine: one value,
-- viable prefixes, and where a text stops.
pub mod Machine
pub mod Machines
pub mod GrammarLaws
pub mod Reaching
pub mod Interchange
-- What may come next and where a text may end.
pub mod StateTests
pub mod Below
pub mod Dialects
-- The parser over the machine: a chunk, lines, a whole text, a reader, a refusal.
pub mod Prefixes
pub mod Feeding
pub mod FedChunks
pub mod FedLines
pub mod WholeTexts
pub mod Readings
pub mod Refusals
-- The levels of the code: how each goes on where its open part does, and many bytes at a time.
pub mod OpenParts
pub mod SeriesSteps
pub mod WholeParts
pub mod WholeSteps
pub mod WholeMembers
pub mod Leading
pub mod ByteRuns
pub mod RunSteps
pub mod AllocationFreeSteps
pub mod BlobGroups
pub mod Blocks
pub mod Leaves
pub mod Decoding
pub mod Quads
pub mod HighDigits
-- Bytes that may follow: masks, tables, runs and their names.
pub mod Marks
pub mod BarePlaces
pub mod LevelMarks
pub mod Classes
pub mod Numerals
pub mod FirstBytes
pub mod SetRuns
pub mod Fitting
pub mod Listing
pub mod NamedSets
pub mod LineSpots
