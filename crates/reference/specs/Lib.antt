-- The references of document 01, and the code's answer.
pub mod Unescape
pub mod Answers
-- The HTML standard's of the same forms, which they are compared with.
pub mod Standard
