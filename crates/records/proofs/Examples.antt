-- Closed examples of the definitions, by computation: document 01's two records and one of two items, encoded and decoded.
-- Assumes nothing.
use Prim.Native.Nat.{ℕ}
use Prim.Native.String.{String}
use mathlib.Core.Path.{◌≡◌, refl}
use mathlib.Core.Bool.{true, false}
use mathlib.Core.List.{List, [], ◌∷◌, ◌++◌}
use Rattle.text.specs.Words.{str}
use Rattle.text.specs.Chars.{is_scalar}
use Rattle.text.specs.Utf8.{utf8, size, char_of, char, starts3, starts4, scan, chars, is_utf8}
use Rattle.records.specs.Blocks.{Span, Block, Heading, Paragraph, Item}
use Rattle.records.specs.Format.{encode_span, encode_spans, encode_block, encode_blocks, is_marker}
use Rattle.records.specs.Decode.{Parse, parsed, u16, u32, part, text_at, span_at, spans_at, level_at, marker_at, item_at, kind_at, count_at, head_at, block_at, blocks_at, decode_blocks}

-- a text, a block and all blocks as they are decoded, with all that this stands on open to be computed
unfoldable text_opened : List ℕ → Parse (List ℕ)
unfolding text_at u32 part is_utf8 chars scan char char_of starts3 starts4 is_scalar
text_opened s = text_at s

unfoldable pub block_opened : List ℕ → Parse Block
unfolding block_at head_at kind_at level_at marker_at item_at count_at u16 spans_at span_at is_marker text_opened
block_opened s = block_at s

unfoldable pub blocks_opened : List ℕ → Parse (List Block)
unfolding decode_blocks blocks_at block_opened
blocks_opened s = decode_blocks s

abbrev plain : String → Span
plain t = record { text = str t; bold = false; italic = false; code = false }

-- ---- document 01's specimens: `# T`, and two backticks
abbrev pub titled : List ℕ
titled = 0x09 ∷ 0x01 ∷ 0x01 ∷ 0x00 ∷ 0x00 ∷ 0x00 ∷ 0x08 ∷ 0x01 ∷ 0x00 ∷ 0x00 ∷ 0x00 ∷ 0x54 ∷ []

abbrev ticks : List ℕ
ticks = 0x08 ∷ 0x01 ∷ 0x00 ∷ 0x00 ∷ 0x00 ∷ 0x04 ∷ []

-- a bullet of depth 0, and a second item of depth 2 with two spans
abbrev items : List Block
items = Item 0 (str "•") [] ∷ Item 2 (str "10.") (plain "é" ∷ (record { text = str "x"; bold = true; italic = true; code = true }) ∷ []) ∷ []

abbrev pub itemized : List ℕ
itemized =
    0x04 ∷ 0x03 ∷ 0xE2 ∷ 0x80 ∷ 0xA2
    ∷ 0x0E
    ∷ 0x02 ∷ 0x00
    ∷ 0x03 ∷ 0x31 ∷ 0x30 ∷ 0x2E
    ∷ 0x02 ∷ 0x00 ∷ 0x00 ∷ 0x00
    ∷ 0x08 ∷ 0x02 ∷ 0x00 ∷ 0x00 ∷ 0x00 ∷ 0xC3 ∷ 0xA9
    ∷ 0x0F ∷ 0x01 ∷ 0x00 ∷ 0x00 ∷ 0x00 ∷ 0x78
    ∷ []

pub specimens : (encode_blocks (Heading 1 (plain "T" ∷ []) ∷ []) ≡ titled)
    × (encode_blocks (Paragraph ((record { text = []; bold = false; italic = false; code = true }) ∷ []) ∷ []) ≡ ticks)
    × (encode_blocks (Paragraph [] ∷ []) ≡ 0x00 ∷ [])
    × (encode_blocks items ≡ itemized)
unfolding encode_blocks encode_block encode_spans encode_span utf8 size
specimens = (refl, refl, refl, refl)

pub decoded : (decode_blocks titled ≡ parsed (Heading 1 (plain "T" ∷ []) ∷ []) [])
    × (decode_blocks (titled ++ ticks) ≡ parsed (Heading 1 (plain "T" ∷ []) ∷ Paragraph ((record { text = []; bold = false; italic = false; code = true }) ∷ []) ∷ []) [])
    × (decode_blocks itemized ≡ parsed items [])
    × (decode_blocks [] ≡ parsed [] [])
unfolding blocks_opened
decoded = (refl, refl, refl, refl)
