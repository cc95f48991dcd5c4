-- Blocks and their records.
pub mod Blocks
pub mod Format
pub mod Decode
