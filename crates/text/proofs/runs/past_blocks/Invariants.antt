-- `text::past_blocks` meets its contract. The loop's invariant: what it passed is of the class.
-- Assumes nothing.
use Rattle.std.proofs.Common.{◌-◌, length}
use Rattle.text.specs.Run.{RunTo}
use Rattle.text.proofs.runs.past_blocks.Given as goal

abbrev pub invariant-loop-end : goal.invariant-loop-end
invariant-loop-end g l = RunTo (g.C.ByteClass.holds l.class) l.s l.i l.end

abbrev pub decreases-loop-end : goal.decreases-loop-end
decreases-loop-end g l = length l.s - l.end
