-- `text::past_blocks` meets its contract. The loop's invariant: what it passed is of the class.
-- Assumes nothing.
use native.Mathlib.Omega.{arith}
use mathlib.Core.Path.{sym, ◌∙◌}
use Rattle.text.proofs.RunLaws.{past_block}
use Rattle.text.proofs.runs.past_blocks.Goals as goal

pub loop-end-preserved : goal.loop-end-preserved
loop-end-preserved g c =
    let h = c.loop-end.invariant.high in
    past_block _ _ _ g.row.N _ c.loop-end.invariant (omega arith) (sym c.is_block.ensures ∙ c.if-not-is_block.false)
