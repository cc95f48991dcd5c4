-- `text::close` meets its contract. The loop's invariant: `-->` stands at no place from i up to j.
-- Assumes nothing.
use Prim.Native.Nat.{◌+◌}
use native.Mathlib.Omega.{arith}
use mathlib.Core.Path.{sym}
use Rattle.text.specs.Words.{str}
use Rattle.text.specs.Run.{SeekTo}
use Rattle.text.proofs.SeekLaws.{none_left, seek_not, seek_found}
use Rattle.text.proofs.search.close.Goals as goal
use Rattle.text.proofs.search.close.Goals.{Then-is_free_block}

pub returns-then-s-i : goal.returns-then-s-i
returns-then-s-i c = let a = c.args in sym (none_left 45 _ a.s.now a.i (omega arith))

-- the block that a turn passes
passed : (c : Then-is_free_block)
    →
    let a = c.args in
    SeekTo (str "-->") a.s.now c.loop-j.j (c.loop-j.j + 32)
passed c = c.is_free_block.ensures c.if-is_free_block.true

pub returns-then-is_close : goal.returns-then-is_close
returns-then-is_close c = let h = c.loop-j.invariant.high in seek_found _ _ _ _ _ c.loop-j.invariant (omega arith) c.is_close.ensures c.if-is_close.true

pub loop-j-preserved : goal.loop-j-preserved
loop-j-preserved c = let h = c.loop-j.invariant.high in seek_not _ _ _ _ _ c.loop-j.invariant (omega arith) c.is_close.ensures c.if-is_close.false
