-- `markdown::lines::commented` meets its contract. The loop's invariant: what is stored and what is left make up the line.
-- Assumes nothing.
use Rattle.markdown.proofs.Reading.{Copying}
use lib.ListN.{length}
use Prim.Native.Nat.{◌-◌}
use Rattle.markdown.proofs.lines.commented.Given as goal

abbrev pub invariant-loop-j : goal.invariant-loop-j
invariant-loop-j l = Copying l.markdown l.start l.have l.initial.work l.work l.j l.k

abbrev pub decreases-loop-j : goal.decreases-loop-j
decreases-loop-j l = length l.markdown - l.j
