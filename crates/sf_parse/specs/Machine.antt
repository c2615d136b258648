-- The machine that reads the grammar a byte at a time. A reader need not judge these definitions:
-- the grammar is that of `sf_value`, and the laws of `Laws`, `Reaching` and `StateTests` state that
-- the machine reads it exactly. Each level has its states, a step, a finish, and the residual of a
-- state: the texts that complete it, defined by the grammar.
pub mod Language
pub mod Numbers
pub mod Texts
pub mod Blobs
pub mod Showns
pub mod Bares
pub mod Params
pub mod Items
pub mod Inners
pub mod Members
pub mod Entries
pub mod Series
pub mod States
pub mod Fields
pub mod Tests
