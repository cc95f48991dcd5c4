-- The laws of the definitions.
pub mod Facts
pub mod Conditions
pub mod AllChars
pub mod ReadingLaws
pub mod Sound
pub mod Shrinks
pub mod Complete
-- Demand 3: what the converter makes of a sheet.
pub mod Turns
pub mod Tags
pub mod TextOut
pub mod RunOut
pub mod Source
pub mod LineOut
pub mod LineEnd
pub mod ListOut
pub mod PageOut
pub mod Fronts
pub mod Trimmed
pub mod ReadBack
pub mod WrittenSize
pub mod PageSize
pub mod Converts
-- And what the block reader makes of that.
pub mod PageRead
pub mod EachLine
pub mod WrittenLines
pub mod ReadAll
pub mod Calm
pub mod Places
pub mod SheetReads
pub mod SheetScalars
pub mod SheetWf
pub mod SheetRecords
pub mod ReadExamples
pub mod Agrees
-- What the proofs of several functions use.
mod TestTags
mod TestMany
mod TestText
mod TestCount
mod TestSays
mod TestGist
mod TestRuns
mod TestLine
mod TestForms
mod TestItems
mod TestBlocks
mod TestPage
mod TestExamples
pub mod TestCall
pub mod Specimens
