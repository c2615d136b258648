-- The definitions that the contracts use.
pub mod Rfc9651
pub mod Utf8Laws
pub mod SerialisingLaws
pub mod ParsingLaws
pub mod AbnfLaws
pub mod JoiningLaws
