-- What the walker answers.
pub mod Answers
pub mod Places
pub mod Numbers
pub mod Walk
pub mod Decoded
-- What the contracts of the inner functions say.
pub mod Readers
