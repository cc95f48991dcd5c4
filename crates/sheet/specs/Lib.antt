-- Document 01's sheet: its tree, its grammar, its written form and its blocks.
pub mod Tree
pub mod Grammar
pub mod Written
pub mod Sheet
-- The grammar as a computation, and the call.
pub mod Reading
pub mod Reader
pub mod Calls
-- What the contracts of the inner functions say.
pub mod Weight
pub mod Says
pub mod Keeps
pub mod Forms
