-- `markdown::rows::put_cells` meets its contract. The loop's invariant: what is stored and the cells of what is left make up the row's.
-- Assumes nothing.
use Rattle.markdown.proofs.CellFill.{Filling}
use Prim.Native.Nat.{◌-◌}
use Rattle.markdown.proofs.rows.put_cells.Given as goal

abbrev pub invariant-loop-i : goal.invariant-loop-i
invariant-loop-i l = Filling l.initial.work l.work l.part.start l.part.end l.at l.i l.k

abbrev pub decreases-loop-i : goal.decreases-loop-i
decreases-loop-i l = l.part.end - l.i
