-- `text::is_block` meets its contract. The loop's invariant: whether the first k bytes of the block are of the class.
-- Assumes nothing.
use Rattle.std.proofs.Common.{◌≡◌, take, drop}
use Rattle.text.specs.Words.{all}
use Rattle.text.proofs.runs.is_block.Given as goal

abbrev pub invariant-loop-k : goal.invariant-loop-k
invariant-loop-k g l = l.so_far ≡ all (g.C.ByteClass.holds l.class) (take l.k (drop l.i l.s))
