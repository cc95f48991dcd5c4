-- Many codes in one walk (U10): "The walk ends after the block with which every code has its number, otherwise at the end of the records": records that
-- are those of a list of blocks are answered by this list (`on_whole_records`), and what stands behind a list in which every code has its number, a
-- broken block too, changes nothing (`behind_the_walk`). "7 when the walk reaches a broken block": behind a list in which some code has none
-- (`before_a_broken_block`).
-- Assumes nothing.
use Prim.Native.Nat.{ℕ, ◌+◌, ◌<◌}
use native.Mathlib.Omega.{arith}
use native.Mathlib.Nat.{add-zero}
use mathlib.Core.Path.{◌≡◌, refl, sym, ap, ◌∙◌}
use mathlib.Core.Bool.{true, false, not}
use mathlib.Core.List.{List, [], ◌∷◌, ◌++◌, append_assoc, append-nil}
use lib.ListN.{length, drop, length-append}
use lib.Seq.{drop-drop, drop-append_seam}
use Rattle.text.proofs.Tests.{and_false}
use Rattle.records.specs.Blocks.{Block}
use Rattle.records.specs.Format.{encode_block, encode_blocks, WfBlocks}
use Rattle.records.specs.Decode.{Bytes, failed, parsed, block_at, decode_blocks}
use Rattle.records.proofs.RoundTrip.{decoded_are_records}
use Rattle.walker.specs.Answers.{refused, gives, found_at}
use Rattle.walker.proofs.WalkerLaws.{found_end, found_none}
use Rattle.walker.proofs.Walked.{stands}
use Rattle.codes.specs.Search.{all_found}
use Rattle.codes.specs.Calls.{divided, are_codes, Reading, then_read, reading, search, codes_answer}
use Rattle.codes.proofs.SearchLaws.{stays}
use Rattle.codes.proofs.Reading.{reading_from, from_start, from_end, from_broken, from_block}
use Rattle.codes.proofs.LoneSearch.{found_in, search_gives, search_seven, call_is}

-- ---- what is read of records that start with those of some blocks
abbrev all_read : List Block → Reading → Reading
all_read bs r = record { blocks = bs ++ r.blocks; broken = r.broken }

module _ (s : List ℕ) (y : Bytes s) where
  read_on : (bs : List Block) (at : ℕ) (rest : List ℕ) → WfBlocks bs → drop at s ≡ encode_blocks bs ++ rest
      → reading_from s at ≡ all_read bs (reading_from s (at + length (encode_blocks bs)))
  unfolding encode_blocks
  read_on [] at rest w e = rw (add-zero at)
  read_on (b ∷ bs) at rest w e =
      let k = encode_block b in
      let q = encode_blocks bs ++ rest in
      let f : drop at s ≡ k ++ q = e ∙ append_assoc k (encode_blocks bs) rest in
      let next = at + length k in
      let g : drop next s ≡ q = sym (drop-drop (length k) at s) ∙ ap (drop (length k)) f ∙ drop-append_seam k q in
      let m : next + length (encode_blocks bs) ≡ at + length (k ++ encode_blocks bs) = omega (arith, length-append k (encode_blocks bs)) in
      from_block s at y (stands s at b q w.0 f) ∙ ap (then_read b) (read_on bs next rest w.1 g) ∙ ap (λ (k : ℕ). all_read (b ∷ bs) (reading_from s k)) m

  module _ (bs : List Block) (rest : List ℕ) (w : WfBlocks bs) (e : s ≡ encode_blocks bs ++ rest) where
    abbrev end : ℕ
    end = length (encode_blocks bs)

    read_blocks : reading s ≡ all_read bs (reading_from s end)
    read_blocks = let n : 0 + end ≡ end = omega arith in sym (from_start s) ∙ read_on bs 0 rest w e ∙ ap (λ (k : ℕ). all_read bs (reading_from s k)) n

    sizes : length s ≡ end + length rest
    sizes = ap length e ∙ length-append (encode_blocks bs) rest

    -- nothing stands behind them, or a broken block
    read_whole : rest ≡ [] → reading s ≡ record { blocks = bs; broken = false }
    read_whole r =
        let n : end ≡ length s = omega (arith, sizes, ap length r) in
        read_blocks ∙ ap (all_read bs) (from_end s end (found_end s end n)) ∙ ap (λ (l : List Block). record { blocks = l; broken = false }) (append-nil bs)

    read_broken : 0 < length rest → block_at rest ≡ failed → reading s ≡ record { blocks = bs; broken = true }
    read_broken l r =
        let f : block_at (drop end s) ≡ failed = ap block_at (ap (drop end) e ∙ drop-append_seam (encode_blocks bs) rest) ∙ r in
        let n : found_at s end ≡ refused 7 = found_none s end (λ z. omega (arith, sizes)) f in
        read_blocks ∙ ap (all_read bs) (from_broken s end n) ∙ ap (λ (l : List Block). record { blocks = l; broken = true }) (append-nil bs)

-- ---- the call
module _ (bytes lengths : List ℕ) (t : are_codes bytes lengths ≡ true) where
  abbrev cs : List (List ℕ)
  cs = divided bytes lengths

  pub on_whole_records : (s : List ℕ) {bs : List Block} {q : List ℕ} → Bytes s → decode_blocks s ≡ parsed bs q
      → codes_answer s bytes lengths ≡ gives (found_in cs bs)
  on_whole_records s {bs} y d =
      let (e, w, _) = decoded_are_records s d y in
      call_is s bytes lengths t ∙ ap (search cs) (read_whole s y bs [] w (e ∙ sym (append-nil (encode_blocks bs))) refl) ∙ search_gives cs _ refl

  module _ (bs : List Block) (rest : List ℕ) (w : WfBlocks bs) (y : Bytes (encode_blocks bs ++ rest)) where
    abbrev s : List ℕ
    s = encode_blocks bs ++ rest

    pub behind_the_walk : all_found cs bs ≡ true → codes_answer s bytes lengths ≡ gives (found_in cs bs)
    behind_the_walk f =
        let r = reading_from s (length (encode_blocks bs)) in
        let h = stays bs r.blocks cs f in
        let o = search_gives cs (all_read bs r) (and_false r.broken _ (ap not h.founds)) in
        call_is s bytes lengths t ∙ ap (search cs) (read_blocks s y bs rest w refl) ∙ o ∙ rw (h.visits, h.numbers)

    pub before_a_broken_block : all_found cs bs ≡ false → 0 < length rest → block_at rest ≡ failed → codes_answer s bytes lengths ≡ refused 7
    before_a_broken_block f l b = call_is s bytes lengths t ∙ ap (search cs) (read_broken s y bs rest w refl l b) ∙ (search_seven cs _).1 (ap not f)
