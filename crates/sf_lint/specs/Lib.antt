-- The definitions that the contracts use: the registered fields and those of the settings, the
-- lines of heads, and last what is printed for them, in which colours, and what a run reads and
-- writes.
pub mod Registry
pub mod Settings
pub mod Options
pub mod Head
pub mod Colours
pub mod Marks
pub mod Meanings
pub mod Report
pub mod StatusCodes
pub mod Ages
pub mod Deciding
pub mod Heads
pub mod Run
