-- Walking the records of a list of blocks shows each block in order, and then the end.
-- Assumes nothing.
use Prim.Native.Nat.{ℕ, ◌+◌, ◌-◌, ◌<◌, ◌≤◌}
use native.Mathlib.Omega.{arith}
use mathlib.Core.Path.{◌≡◌, sym, ap, ◌∙◌}
use mathlib.Core.List.{List, [], ◌∷◌, ◌++◌, append_assoc, append-nil}
use lib.ListN.{length, drop, length-append, length-drop, drop_of_length-le}
use lib.Seq.{drop-append_seam}
use borrow.Author.Tests.{ne_eqb}
use Rattle.records.specs.Blocks.{Block}
use Rattle.records.specs.Format.{encode_block, encode_blocks, WfBlock, WfBlocks}
use Rattle.records.specs.Decode.{failed, block_at}
use Rattle.walker.specs.Answers.{refused, gives, found_at, block_answer, marker_answer, span_in, span_answer, text_answer}
use Rattle.walker.specs.Walk.{Shows, Ends, Refuses, Walk}
use Rattle.records.proofs.RoundTrip.{block_some, record_decodes}
use Rattle.records.proofs.DecodeSteps.{nothing_there}
use Rattle.walker.proofs.WalkerLaws.{found_end, found_none}

-- the answers, where it is known what stands at the offset
module _ (s : List ℕ) (at : ℕ) where
  pub shows : (b : Block) (next : ℕ) → found_at s at ≡ gives (b, next) → Shows s at b next
  unfolding block_answer marker_answer span_answer text_answer span_in
  shows b next e = record { values = rw e; marker = rw e; emphasis = λ n. rw e; text = λ n. rw e }

  pub refuses : found_at s at ≡ refused 7 → Refuses s at
  unfolding block_answer marker_answer span_answer text_answer span_in
  refuses e = record { values = rw e; marker = rw e; emphasis = λ n. rw e; text = λ n. rw e }

  -- at the length the end is answered, for a span number too
  pub at_the_end : at ≡ length s → Ends s at
  unfolding block_answer marker_answer span_answer text_answer span_in
  at_the_end h =
      let e = found_end s at h in
      record { values = rw e; marker = rw e; emphasis = λ n. rw e; text = λ n. rw e }

  -- where no block stands, 7
  pub no_block : (at ≡ length s → ⊥) → block_at (drop at s) ≡ failed → Refuses s at
  no_block h f = refuses (found_none s at h f)

  -- and past the end
  pub past_the_end : length s < at → Refuses s at
  past_the_end h =
      let l : length s ≤ at = omega arith in
      no_block (λ e. omega arith) (ap block_at (drop_of_length-le s l) ∙ nothing_there)

-- a block stands where its record does, whatever is before and behind it
pub stands : (s : List ℕ) (at : ℕ) (b : Block) (rest : List ℕ) → WfBlock b → drop at s ≡ encode_block b ++ rest → found_at s at ≡ gives (b, at + length (encode_block b))
unfolding found_at
stands s at b rest w e =
    let l : length s - at ≡ length (encode_block b) + length rest = sym (length-drop at s) ∙ ap length e ∙ length-append (encode_block b) rest in
    let n : length s - length rest ≡ at + length (encode_block b) = omega (arith, l, block_some b) in
    rw (ne_eqb at (length s) (λ z. omega (arith, l, block_some b)), e, record_decodes b rest w, n)

-- a walk goes on with what it passed counted to what stands before
passed : (pre e post : List ℕ) (bs : List Block) → Walk ((pre ++ e) ++ post) (length (pre ++ e)) bs → Walk (pre ++ (e ++ post)) (length pre + length e) bs
passed pre e post bs h = rw (← append_assoc pre e post, ← length-append pre e) h

walk_from : (bs : List Block) (pre : List ℕ) → WfBlocks bs → Walk (pre ++ encode_blocks bs) (length pre) bs
unfolding encode_blocks
walk_from [] pre w = at_the_end (pre ++ []) (length pre) (ap length (sym (append-nil pre)))
walk_from (b ∷ bs) pre w =
    let rest = encode_blocks bs in
    let s = pre ++ (encode_block b ++ rest) in
    let next = length pre + length (encode_block b) in
    let here : found_at s (length pre) ≡ gives (b, next) = stands s (length pre) b rest w.0 (drop-append_seam pre (encode_block b ++ rest)) in
    (next, shows s (length pre) b next here, passed pre (encode_block b) rest bs (walk_from bs (pre ++ encode_block b) w.1))

-- each block of the list, in order, from offset 0 on, and then the end
pub walk_gives_back : (bs : List Block) → WfBlocks bs → Walk (encode_blocks bs) 0 bs
walk_gives_back bs w = walk_from bs [] w
