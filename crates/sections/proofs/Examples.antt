-- Closed examples of the definitions, by computation: the sections of a list of blocks, and the call on short records.
-- Assumes nothing.
use mathlib.Core.Path.{◌≡◌, refl}
use mathlib.Core.List.{List, [], ◌∷◌, ◌++◌}
use mathlib.Core.Option.{none, some}
use Rattle.text.specs.Words.{str}
use Rattle.text.specs.Utf8.{utf8}
use Rattle.records.specs.Blocks.{Block, Heading, Paragraph, Item}
use Rattle.records.specs.Format.{encode_span, encode_spans, encode_block, encode_blocks}
use Rattle.records.specs.Decode.{span_of}
use Rattle.records.proofs.Examples.{blocks_opened, titled, itemized}
use Rattle.sections.specs.Sections.{until, headed, sections, first_with, section_of}
use Rattle.walker.specs.Answers.{refused, gives}
use Rattle.sections.specs.Calls.{section_place, section_answer, section_range, section_bytes}

-- a paragraph, `# A`, an item, `## B**C**`, `### ` without text, `## B`, `# A` again
abbrev intro : Block
intro = Paragraph (span_of 0 (str "x") ∷ [])

abbrev a : Block
a = Heading 1 (span_of 0 (str "A") ∷ [])

abbrev point : Block
point = Item 0 (str "•") (span_of 0 (str "y") ∷ [])

abbrev bc : Block
bc = Heading 2 (span_of 0 (str "B") ∷ span_of 1 (str "C") ∷ [])

abbrev bare : Block
bare = Heading 3 []

abbrev b : Block
b = Heading 2 (span_of 0 (str "B") ∷ [])

abbrev all : List Block
all = intro ∷ a ∷ point ∷ bc ∷ bare ∷ b ∷ a ∷ []

pub divided : (sections [] ≡ [])
    × (sections all ≡ (intro ∷ []) ∷ (a ∷ point ∷ bc ∷ bare ∷ b ∷ []) ∷ (bc ∷ bare ∷ []) ∷ (bare ∷ []) ∷ (b ∷ []) ∷ (a ∷ []) ∷ [])
    × (section_of (str "A") all ≡ some (a ∷ point ∷ bc ∷ bare ∷ b ∷ []))  -- the first of two
    × (section_of (str "BC") all ≡ some (bc ∷ bare ∷ []))  -- a title across spans
    × (section_of (str "B") all ≡ some (b ∷ []))  -- not a longer one that starts so
    × (section_of [] all ≡ some (bare ∷ []))  -- a heading without text
    × (section_of (str "x") all ≡ none)  -- a paragraph is no heading
unfolding section_of first_with sections headed until utf8
divided = (refl, refl, refl, refl, refl, refl, refl)

-- `# T` once, before and behind two items, and before a byte that starts no block
pub called : (section_answer titled (str "T") ≡ gives (some (record { start = 0; end = 12 })))
    × (section_answer (itemized ++ titled) (str "T") ≡ gives (some (record { start = 29; end = 41 })))
    × (section_answer (titled ++ itemized) (str "T") ≡ gives (some (record { start = 0; end = 41 })))
    × (section_answer (titled ++ titled) (str "T") ≡ gives (some (record { start = 0; end = 12 })))
    × (section_bytes (itemized ++ titled) (str "T") ≡ titled)
    × (section_answer titled (str "TT") ≡ gives none)
    × (section_answer [] [] ≡ gives none)
    × (section_answer (titled ++ (0x10 ∷ [])) (str "T") ≡ refused 7)
    × (section_answer (titled ++ titled ++ (0x10 ∷ [])) (str "T") ≡ refused 7)
    × (section_bytes (titled ++ (0x10 ∷ [])) (str "T") ≡ [])
unfolding section_answer section_range section_place section_of first_with sections headed until encode_blocks encode_block encode_spans encode_span blocks_opened utf8
called = (refl, refl, refl, refl, refl, refl, refl, refl, refl, refl)
