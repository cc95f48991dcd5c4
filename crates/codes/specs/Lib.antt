-- Where codes stand in a list of blocks, and what the call answers.
pub mod Search
pub mod Calls
-- What the contracts of the inner functions say.
pub mod Readers
