-- No character invented (document 02, U11), from Markdown to blocks: one after the other, the texts of the blocks are characters of the Markdown
-- in their order, some perhaps left out, and of what the reader itself writes: a space in place of a line's end, where a line continues an
-- item or joins a paragraph, and ` · ` in place of a bar. With the items' markers: the bullet too, in place of `-`, `*` or `+`; the digits
-- and the full stop of a marker stand in the Markdown. For every Markdown text, and for what the call wrote.
-- Assumes nothing.
use Prim.Native.Nat.{ℕ}
use mathlib.Core.Path.{◌≡◌}
use mathlib.Core.Bool.{Bool, true, false}
use mathlib.Core.Option.{some}
use mathlib.Core.List
use mathlib.Core.List.{List, [], ◌∷◌, ◌++◌, Sublist, sublist-append_left, sublist-append_right}
use Rattle.text.specs.Utf8.{decode}
use Rattle.text.specs.Outcome.{wrote}
use Rattle.records.specs.Blocks.{Block, joined}
use Rattle.records.specs.Decode.{parsed, decode_blocks}
use Rattle.spans.specs.Shown.{Every}
use Rattle.markdown.specs.Blocks.{blocks}
use Rattle.markdown.specs.Calls.{blocks_call}
use Rattle.markdown.specs.Shown.{marker, shown, Shows, without}
use Rattle.markdown.proofs.ReadShown.{blocks_shown}
use Rattle.markdown.proofs.WithoutLaws.{shows_without}
use Rattle.markdown.proofs.Wf.{call_decodes}

pub nothing_invented : (marked : Bool) (markdown : List ℕ) → Shows marked (shown marked (blocks markdown)) markdown
nothing_invented marked markdown = blocks_shown marked markdown

-- in one sentence: but for spaces, `·` and the bullet, all that the blocks show are characters of the Markdown in their order
pub in_markdown : (markdown : List ℕ) → Sublist (without " ·•" (shown true (blocks markdown))) markdown
in_markdown markdown = shows_without true (shown true (blocks markdown)) markdown (blocks_shown true markdown)

-- and what is said of all blocks holds of the text of each
pub every_block : (markdown : List ℕ) → Every (λ (b : Block). Shows false (joined b.spans) markdown) (blocks markdown)
every_block markdown = let whole = blocks_shown false markdown in each whole (blocks markdown) (List.Sublist.refl (shown false (blocks markdown)))
  where
    each : Shows false (shown false (blocks markdown)) markdown → (bs : List Block) → Sublist (shown false bs) (shown false (blocks markdown))
        → Every (λ (b : Block). Shows false (joined b.spans) markdown) bs
    each whole [] h = tt
    each whole (b ∷ bs) h =
        let lead = marker b.kind false in
        let text = joined b.spans in
        let mine : Sublist text (shown false (b ∷ bs)) = List.Sublist.trans (sublist-append_right lead text) (sublist-append_left (lead ++ text) (shown false bs)) in (
          record { written = whole.written; rewritten = whole.rewritten; from = List.Sublist.trans mine (List.Sublist.trans h whole.from) },
          each whole bs (List.Sublist.trans (sublist-append_right (lead ++ text) (shown false bs)) h),
        )

-- The records that the call wrote decode to blocks that show nothing else than that of the Markdown
pub call_shown : (bytes : List ℕ) (work result : ℕ) (records : List ℕ) → blocks_call bytes work result ≡ wrote records
    → (markdown : List ℕ) × (bs : List Block) × (decode bytes ≡ some markdown) × (decode_blocks records ≡ parsed bs [])
    × ((marked : Bool) → Shows marked (shown marked bs) markdown)
call_shown bytes work result records e = go (call_decodes bytes work result records e)
  where
    go : ((cs : List ℕ) × (decode bytes ≡ some cs) × (decode_blocks records ≡ parsed (blocks cs) []))
        → (markdown : List ℕ) × (bs : List Block) × (decode bytes ≡ some markdown) × (decode_blocks records ≡ parsed bs [])
        × ((marked : Bool) → Shows marked (shown marked bs) markdown)
    go (cs, d, q) = (cs, blocks cs, d, q, λ (marked : Bool). blocks_shown marked cs)
