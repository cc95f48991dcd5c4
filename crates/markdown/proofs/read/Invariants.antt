-- `markdown::read` meets its contract. The loop's invariant: the state stands for a reader, and what is left gives it the blocks of the whole Markdown.
-- Assumes nothing.
use Rattle.markdown.proofs.ReadAll.{Reading}
use lib.ListN.{length}
use Prim.Native.Nat.{◌+◌, ◌-◌}
use Rattle.markdown.proofs.read.Given as goal

abbrev pub invariant-loop-i : goal.invariant-loop-i
invariant-loop-i l = Reading l.markdown l.initial.work l.work l.initial.out l.out l.i l.s

abbrev pub decreases-loop-i : goal.decreases-loop-i
decreases-loop-i l = length l.markdown + 1 - l.i
