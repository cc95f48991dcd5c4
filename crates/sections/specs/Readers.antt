-- What the inner functions promise: their answers by the blocks from an offset on.
-- Assumes nothing.
use Rattle.std.specs.Prelude.{ℕ, ◌+◌, Bool, true, false, leb, List, length, Some, None, Ok, Err}
use Rattle.std.specs.Prelude as code
use Rattle.std.proofs.Math.Option.{Option, none, some}
use Rattle.text.specs.Words.{◌>>=◌, same}
use Rattle.text.specs.Utf8.{encode}
use Rattle.records.specs.Blocks.{Block, joined}
use Rattle.records.specs.Format.{encode_blocks}
use Rattle.walker.specs.Answers.{Answer, at_end, refused, gives, map}
use Rattle.walker.specs.Decoded.{blocks_from, of_blocks}
use Rattle.text.specs.declared.parts.Part.{Part}
use Rattle.walker.specs.declared.blocks.Broken.{Broken}
use Rattle.walker.specs.declared.blocks.Kind as K
use Rattle.walker.specs.declared.blocks.Kind.TheVariants as KV
use Rattle.sections.specs.Sections.{closes, until}
use Rattle.sections.specs.Calls.{section_place}
use Rattle.sections.specs.declared.Heading.{Heading}

-- whether a block that the walker finds has a joined text of these bytes
abbrev pub has_text : List ℕ → Answer (Block × ℕ) → Bool
has_text title at_end = false
has_text title (refused n) = false
has_text title (gives f) = same (encode (joined f.0.spans)) title

-- the level of a heading, where a test holds
abbrev pub level_if : Bool → K.Kind → code.Option ℕ
level_if true (KV.Heading l) = Some l
level_if true KV.Paragraph = None
level_if true (KV.Item d) = None
level_if false k = None

-- whether a kind is that of a heading of this level or a smaller one
abbrev pub closes_at : ℕ → K.Kind → Bool
closes_at l (KV.Heading k) = leb k l
closes_at l KV.Paragraph = false
closes_at l (KV.Item d) = false

-- a place in the records from an offset on
abbrev pub moved : ℕ → Part → Part
moved at r = record { start = at + r.start; end = at + r.end }

unfoldable pub place_from : List ℕ → ℕ → List Block → Option Part
place_from title at bs = section_place title bs >>= λ r. some (moved at r)

-- what is left to answer from an offset on
unfoldable pub answer_from : List ℕ → List ℕ → ℕ → Answer (Option Part)
answer_from s title at = of_blocks (place_from title at) (blocks_from s at)

-- where a section of a level that goes on at an offset ends
unfoldable pub end_answer : List ℕ → ℕ → ℕ → Answer ℕ
end_answer s at l = of_blocks (λ bs. at + length (encode_blocks (until (closes l) bs))) (blocks_from s at)

-- what is known once the end was found and the blocks from it on were not read yet
abbrev pub end_values : List ℕ → code.Result ℕ Broken → Answer ℕ
end_values s (Ok end) = of_blocks (λ bs. end) (blocks_from s end)
end_values s (Err e) = refused 7

-- and once the heading was found
abbrev pub up_to : ℕ → Answer ℕ → Answer (Option Part)
up_to start a = map (λ end. some (record { start = start; end = end })) a

abbrev pub heading_values : List ℕ → code.Result (code.Option Heading) Broken → Answer (Option Part)
heading_values s (Ok (Some h)) = up_to h.start (end_answer s h.next h.level)
heading_values s (Ok None) = gives none
heading_values s (Err e) = refused 7
