-- What the calls answer for records and a title (document 02, U9; READINGS-02, points 3 and 25): 7 for records that are broken anywhere, else the part of
-- the records that is the section, or that there is none.
-- Assumes nothing.
use Rattle.std.specs.Prelude.{ℕ, ◌+◌, List, length, Some, None, Ok, Err}
use Rattle.std.specs.Prelude as code
use Rattle.std.proofs.Math.Option.{Option, none, some}
use Rattle.std.specs.Borrow.{Bor}
use Rattle.text.specs.Words.{◌>>=◌, case}
use Rattle.text.specs.Part.{between, part_of}
use Rattle.text.specs.declared.parts.Part.{Part}
use Rattle.records.specs.Blocks.{Block}
use Rattle.records.specs.Format.{encode_blocks}
use Rattle.records.specs.Decode.{decode_blocks}
use Rattle.walker.specs.Answers.{Answer, refused, gives}
use Rattle.walker.specs.Places.{nowhere, range_or_none}
use Rattle.walker.specs.Decoded.{of_blocks}
use Rattle.walker.specs.declared.blocks.Broken.{Broken}
use Rattle.sections.specs.Sections.{titled, until, section_of}

-- a section's records start behind those of the blocks before its heading
abbrev pub place : List Block → List Block → Part
place before x =
    record { start = length (encode_blocks before); end = length (encode_blocks before) + length (encode_blocks x) }

unfoldable pub section_place : List ℕ → List Block → Option Part
section_place title bs = section_of title bs >>= λ x. some (place (until (titled title) bs) x)

-- the offsets of the first section with the title, or none; 7
unfoldable pub section_answer : List ℕ → List ℕ → Answer (Option Part)
section_answer s title = of_blocks (section_place title) (decode_blocks s)

-- the part of the records, empty on none and on 7
unfoldable pub section_range : List ℕ → List ℕ → Part
section_range s title = range_or_none (λ o. case o nowhere (λ r. r)) (section_answer s title)

abbrev pub section_part : Bor (List ℕ) → List ℕ → Bor (List ℕ)
section_part s title = part_of s (section_range s.now title)

-- its bytes
abbrev pub section_bytes : List ℕ → List ℕ → List ℕ
section_bytes s title = between s (section_range s title).start (section_range s title).end

-- the number and values of the answer's cases
abbrev pub section_values : code.Result (code.Option Part) Broken → Answer (Option Part)
section_values (Ok (Some r)) = gives (some r)
section_values (Ok None) = gives none
section_values (Err e) = refused 7
