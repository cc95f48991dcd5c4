-- The sections of a list of blocks (document 02, U9; READINGS-02, points 4 and 24): a heading and all blocks up to the next heading of the same or a
-- smaller level; the blocks before the first heading form a section without one. A section is the list of its blocks.
-- Assumes nothing.
use Rattle.std.specs.Prelude.{ℕ, Bool, true, false, ◌&&◌, ◌≡◌, leb, if◌then◌else◌}
use mathlib.Core.List.{List, [], ◌∷◌, ◌++◌, Memᴰ}
use Rattle.std.proofs.Math.Option.{Option, none, some}
use Rattle.text.specs.Words.{case, same}
use Rattle.text.specs.Utf8.{encode}
use Rattle.records.specs.Blocks.{Span, Block, Heading, joined}
use Rattle.walker.specs.Answers.{level_of}

-- whether a block is a heading
abbrev pub is_heading : Block → Bool
is_heading b = case (level_of b.kind) false (λ k. true)

-- whether it is one of this level or a smaller one
abbrev pub closes : ℕ → Block → Bool
closes l b = case (level_of b.kind) false (λ k. leb k l)

-- whether it is one whose joined text has these bytes
abbrev pub titled : List ℕ → Block → Bool
titled title b = is_heading b && same (encode (joined b.spans)) title

-- the blocks before the first one that passes a test, all where none does
unfoldable pub until : (Block → Bool) → List Block → List Block
until p [] = []
until p (b ∷ bs) = let more = b ∷ until p bs in if p b then [] else more

-- the section of each heading, in order
unfoldable pub headed : List Block → List (List Block)
headed [] = []
headed (b ∷ bs) = let later = headed bs in case (level_of b.kind) later (λ l. (b ∷ until (closes l) bs) ∷ later)

-- the section without a heading, where there are blocks for it
abbrev pub unheaded : List Block → List (List Block)
unheaded [] = []
unheaded (b ∷ bs) = (b ∷ bs) ∷ []

unfoldable pub sections : List Block → List (List Block)
sections bs = unheaded (until is_heading bs) ++ headed bs

-- a section's heading is its first block
abbrev pub has_title : List ℕ → List Block → Bool
has_title title [] = false
has_title title (b ∷ bs) = titled title b

unfoldable pub first_with : List ℕ → List (List Block) → Option (List Block)
first_with title [] = none
first_with title (x ∷ xs) = let later = first_with title xs in if has_title title x then some x else later

-- the first section whose heading has the title
unfoldable pub section_of : List ℕ → List Block → Option (List Block)
section_of title bs = first_with title (sections bs)

-- no heading of these blocks has that text
abbrev pub NoHeading : List ℕ → List Block → Type 0
NoHeading title bs = (l : ℕ) (xs : List Span) → Memᴰ (Heading l xs) bs → encode (joined xs) ≡ title → ⊥
