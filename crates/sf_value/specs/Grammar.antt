-- The grammar of structured fields (RFC 9651), as relations between whole texts and whole values. A
-- text is a list of numbers, its bytes. A relation `SpellsX d t x` says that in the dialect d the
-- text t spells the value x. The sections named are those of RFC 9651 throughout this folder; if
-- its ABNF and its parsing algorithms differ, the algorithms decide. Nothing here mentions how a
-- text is read. The files are listed in reading order.
pub mod Words
pub mod Classes
pub mod Dialects
pub mod Pairs
pub mod Numbers
pub mod Strings
pub mod Tokens
pub mod ByteSequences
pub mod Booleans
pub mod Utf8
pub mod DisplayStrings
pub mod BareItems
pub mod Parameters
pub mod Items
pub mod InnerLists
pub mod Series
pub mod Fields
pub mod Valid
pub mod Canonical
pub mod Lines
pub mod Refusals
