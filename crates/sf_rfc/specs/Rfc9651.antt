-- The algorithms of RFC 9651, section 4, step by step, and its ABNF. Above each equation is the
-- number of its step and the step in a few words. Values are the types of `sf_value`. Nothing here
-- uses a definition of `specs/Grammar` or of a machine. The files are listed in reading order.
pub mod Words
pub mod Alphabets
pub mod Base64
pub mod Utf8Coding
pub mod Utf8
pub mod ParsingBare
pub mod Parsing
pub mod SerialisingBare
pub mod Serialising
pub mod AbnfNotation
pub mod Abnf
