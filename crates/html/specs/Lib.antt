-- The converter of document 01 and its call.
pub mod State
pub mod Page
pub mod Calls
pub mod Answers
-- What the contracts of the inner functions say.
pub mod Struct
pub mod Names
pub mod Pen
