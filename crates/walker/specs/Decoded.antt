-- The blocks of records from an offset on (document 01, "Records"), and what a call answers that reads them all (document 02: 7 where they are
-- broken anywhere).
-- Assumes nothing.
use Rattle.std.specs.Prelude.{ℕ, Bool, true, false, List, length, drop, leb}
use Rattle.records.specs.Blocks.{Block}
use Rattle.records.specs.Decode.{Parse, failed, parsed, only, decode_blocks}
use Rattle.walker.specs.Answers.{Answer, refused, gives}

-- past the end nothing well-formed stands
unfoldable pub blocks_from : List ℕ → ℕ → Parse (List Block)
blocks_from s at = only (leb at (length s)) (decode_blocks (drop at s))

-- whether all was read
abbrev pub is_whole : {A : Type 0} → Parse A → Bool
is_whole failed = false
is_whole (parsed a r) = true

-- by all the blocks; 7 where there is no list of them
abbrev pub of_blocks : {A : Type 0} → (List Block → A) → Parse (List Block) → Answer A
of_blocks f failed = refused 7
of_blocks f (parsed bs r) = gives (f bs)
