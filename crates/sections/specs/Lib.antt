-- The sections of a list of blocks, and what the calls answer.
pub mod Sections
pub mod Calls
-- What the contracts of the inner functions say.
pub mod Readers
