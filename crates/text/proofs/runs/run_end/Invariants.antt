-- `text::run_end` meets its contract. The loop's invariant: what it passed is of the class.
-- Assumes nothing.
use Rattle.std.proofs.Common.{◌+◌}
use Rattle.text.specs.Run.{RunTo}
use Rattle.text.proofs.runs.run_end.Given as goal

abbrev pub invariant-loop-n : goal.invariant-loop-n
invariant-loop-n g l = RunTo (g.C.ByteClass.holds l.class) l.s l.i (l.i + l.n)
