-- `text::is_block` meets its contract. The loop's invariant: whether the first k bytes of the block are of the class.
-- Assumes nothing.
use native.Mathlib.Omega.{arith}
use mathlib.Core.Path.{◌≡◌, ◌∙◌}
use Rattle.text.proofs.RunLaws.{block_next}
use Rattle.text.proofs.runs.is_block.Goals as goal

pub loop-k-preserved : goal.loop-k-preserved
loop-k-preserved g c = let a = c.args in rw c.has-so_far.ensures (block_next (g.C.ByteClass.holds a.class) a.s.now a.i c.loop-k.k _ (omega arith) c.loop-k.invariant)

pub returns : goal.returns
returns g c = let q : c.loop-k.k ≡ g.row.N = omega arith in c.loop-k.invariant ∙ rw q
