-- Closed examples of the definitions, by computation: the walker on document 01's first record and on one of two items, and records
-- that are broken each in one place.
-- Assumes nothing.
use Prim.Native.Nat.{ℕ}
use mathlib.Core.Path.{◌≡◌, refl}
use mathlib.Core.Bool.{true, false}
use mathlib.Core.List.{List, [], ◌∷◌}
use mathlib.Core.Option.{none, some}
use Rattle.text.specs.Words.{str}
use Rattle.text.specs.Utf8.{utf8, size}
use Rattle.records.specs.Format.{encode_span, encode_spans}
use Rattle.records.proofs.Examples.{block_opened, blocks_opened, titled, itemized}
use Rattle.walker.specs.Answers.{at_end, refused, gives, number, found_at, block_answer, marker_answer, span_in, span_answer, text_answer}
use Rattle.walker.specs.Places.{first_answer, here_answer}
use Rattle.walker.specs.Decoded.{blocks_from, is_whole}

-- ---- the walker: the block, its one span and no second, the end, and two offsets where no block stands
pub walked : (block_answer titled 0 ≡ gives (record { level = some 1; depth = none; count = 1; next = 12 }))
    × (span_answer titled 0 0 ≡ gives (record { bold = false; italic = false; code = false }))
    × (text_answer titled 0 0 ≡ str "T")
    × (span_answer titled 0 1 ≡ at_end)
    × (block_answer titled 12 ≡ at_end)
    × (span_answer titled 12 0 ≡ at_end)
    × (block_answer titled 13 ≡ refused 7)
    × (span_answer titled 13 0 ≡ refused 7)
    × (block_answer titled 11 ≡ refused 7)
    × (block_answer itemized 5 ≡ gives (record { level = none; depth = some 2; count = 2; next = 29 }))
    × (marker_answer itemized 5 ≡ str "10.")
    × (text_answer itemized 5 0 ≡ str "é")
unfolding block_answer marker_answer span_answer text_answer span_in found_at block_opened
walked = (refl, refl, refl, refl, refl, refl, refl, refl, refl, refl, refl, refl)

-- ---- spans by their own offsets: the heading's one span, the end, and the second item's two spans, one after the other
pub in_turn : (first_answer titled 0 ≡ gives 6)
    × (here_answer titled 6 ≡ gives (record { emphasis = record { bold = false; italic = false; code = false }; text = record { start = 11; end = 12 }; next = 12 }))
    × (here_answer titled 12 ≡ refused 7)
    × (first_answer itemized 5 ≡ gives 16)
    × (here_answer itemized 16 ≡ gives (record { emphasis = record { bold = false; italic = false; code = false }; text = record { start = 21; end = 23 }; next = 23 }))
    × (here_answer itemized 23 ≡ gives (record { emphasis = record { bold = true; italic = true; code = true }; text = record { start = 28; end = 29 }; next = 29 }))
unfolding first_answer here_answer found_at encode_spans encode_span block_opened size utf8
in_turn = (refl, refl, refl, refl, refl, refl)

-- ---- whole from an offset on: all, the last block, none; not from inside a block, nor past the end
pub whole : (is_whole (blocks_from itemized 0) ≡ true)
    × (is_whole (blocks_from itemized 5) ≡ true)
    × (is_whole (blocks_from itemized 29) ≡ true)
    × (is_whole (blocks_from itemized 6) ≡ false)
    × (is_whole (blocks_from itemized 30) ≡ false)
unfolding blocks_from blocks_opened
whole = (refl, refl, refl, refl, refl)

-- ---- broken: number 7
abbrev refusal : List ℕ → ℕ
refusal s = number (block_answer s 0)

pub broken : (refusal (0x01 ∷ 0x04 ∷ []) ≡ 7)  -- a level of 4
    × (refusal (0x01 ∷ 0x00 ∷ []) ≡ 7)  -- a level of 0
    × (refusal (0x06 ∷ 0x00 ∷ 0x00 ∷ 0x02 ∷ 0x31 ∷ 0x2E ∷ []) ≡ 7)  -- a depth of 0 that is not absent
    × (refusal (0x02 ∷ 0x01 ∷ 0x00 ∷ []) ≡ 7)  -- a depth without a marker
    × (refusal (0x05 ∷ 0x01 ∷ 0x02 ∷ 0x31 ∷ 0x2E ∷ []) ≡ 7)  -- a level with a marker
    × (refusal (0x04 ∷ 0x01 ∷ 0x2E ∷ []) ≡ 7)  -- a full stop without digits
    × (refusal (0x04 ∷ 0x0B ∷ 0x31 ∷ 0x31 ∷ 0x31 ∷ 0x31 ∷ 0x31 ∷ 0x31 ∷ 0x31 ∷ 0x31 ∷ 0x31 ∷ 0x31 ∷ 0x2E ∷ []) ≡ 7)  -- ten digits
    × (refusal (0x08 ∷ 0x00 ∷ 0x00 ∷ 0x00 ∷ 0x00 ∷ []) ≡ 7)  -- a count of 0 that is not absent
    × (refusal (0x10 ∷ []) ≡ 7)  -- another bit of a block's map
    × (refusal (0x08 ∷ 0x01 ∷ 0x00 ∷ 0x00 ∷ 0x00 ∷ 0x14 ∷ []) ≡ 7)  -- another bit of a span's map
    × (refusal (0x08 ∷ 0x01 ∷ 0x00 ∷ 0x00 ∷ 0x00 ∷ 0x03 ∷ []) ≡ 7)  -- no text and no code
    × (refusal (0x08 ∷ 0x01 ∷ 0x00 ∷ 0x00 ∷ 0x00 ∷ 0x08 ∷ 0x00 ∷ 0x00 ∷ 0x00 ∷ 0x00 ∷ []) ≡ 7)  -- an empty text that is not absent
    × (refusal (0x08 ∷ 0x01 ∷ 0x00 ∷ 0x00 ∷ 0x00 ∷ 0x08 ∷ 0x01 ∷ 0x00 ∷ 0x00 ∷ 0x00 ∷ 0xC3 ∷ []) ≡ 7)  -- no UTF-8
    × (refusal (0x08 ∷ 0x01 ∷ 0x00 ∷ 0x00 ∷ 0x00 ∷ 0x08 ∷ 0x02 ∷ 0x00 ∷ 0x00 ∷ 0x00 ∷ 0x54 ∷ []) ≡ 7)  -- a text that is cut short
    × (refusal (0x08 ∷ 0x02 ∷ 0x00 ∷ 0x00 ∷ 0x00 ∷ 0x04 ∷ []) ≡ 7)  -- fewer spans than counted
unfolding block_answer found_at block_opened
broken = (refl, refl, refl, refl, refl, refl, refl, refl, refl, refl, refl, refl, refl, refl, refl)
