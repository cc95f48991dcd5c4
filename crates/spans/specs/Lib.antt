-- The spans of a line.
pub mod Spans
pub mod Line
-- Words of the theorems about them.
pub mod Shown
-- What the contracts of the inner functions say.
pub mod Turn
pub mod State
