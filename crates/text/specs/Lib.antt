-- The words of all definitions, characters and their classes, UTF-8, and what is made of texts.
pub mod Words
pub mod Chars
pub mod Char
pub mod Utf8
pub mod Trim
pub mod Find
pub mod Put
pub mod Cut
pub mod Part
pub mod Decimal
-- What a call leaves.
pub mod Outcome
-- What the contracts of the inner functions say.
pub mod Run
pub mod Beside
