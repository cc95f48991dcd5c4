-- Document 01's block reader, what its call answers, and the numbers of the answers.
pub mod Blocks
pub mod Calls
pub mod Answers
-- What the blocks show of the Markdown.
pub mod Shown
-- What the contracts of the inner functions say.
pub mod Parts
pub mod Shape
pub mod Cells
pub mod State
