-- Walking what the block reader wrote shows the blocks of the Markdown text, in order, and then the end.
-- Assumes nothing.
use Prim.Native.Nat.{ℕ, ◌≤◌}
use mathlib.Core.Path.{◌≡◌, sym, subst}
use mathlib.Core.List.{List}
use mathlib.Core.Option.{some}
use Rattle.text.specs.Utf8.{Scalars, size, decode}
use Rattle.text.specs.Outcome.{wrote}
use Rattle.records.specs.Format.{encode_blocks, WfBlocks}
use Rattle.walker.specs.Walk.{Walk}
use Rattle.walker.proofs.Walked.{walk_gives_back}
use Rattle.markdown.specs.Blocks.{blocks}
use Rattle.markdown.specs.Calls.{blocks_call}
use Rattle.markdown.proofs.Wf.{blocks_wf, call_wf}

pub blocks_walk : (m : List ℕ) → Scalars m → size m ≤ 65536 → Walk (encode_blocks (blocks m)) 0 (blocks m)
blocks_walk m h s = walk_gives_back (blocks m) (blocks_wf m h s)

pub call_walks : (md : List ℕ) (work result : ℕ) (records : List ℕ) → blocks_call md work result ≡ wrote records
    → (cs : List ℕ) × (decode md ≡ some cs) × Walk records 0 (blocks cs)
call_walks md work result records e = walked (call_wf md work result records e)
  where
    walked : ((cs : List ℕ) × (decode md ≡ some cs) × (records ≡ encode_blocks (blocks cs)) × WfBlocks (blocks cs))
        → (cs : List ℕ) × (decode md ≡ some cs) × Walk records 0 (blocks cs)
    walked (cs, d, q, w) = (cs, d, subst (λ (s : List ℕ). Walk s 0 (blocks cs)) (sym q) (walk_gives_back (blocks cs) w))
