-- `markdown::shape::all_ruled` meets its contract. The loop's invariant: from j on all bytes are ruled if all are.
-- Assumes nothing.
use Rattle.markdown.proofs.RuleLaws.{ruled}
use Rattle.text.specs.Words.{all}
use lib.ListN.{length, drop}
use mathlib.Core.Path.{◌≡◌}
use Prim.Native.Nat.{◌-◌, ◌≤◌}
use Rattle.markdown.proofs.shape.all_ruled.Given as goal

abbrev pub invariant-loop-j : goal.invariant-loop-j
invariant-loop-j l = (all ruled (drop l.j l.line) ≡ all ruled (drop l.i l.line)) × (l.j ≤ length l.line)

abbrev pub decreases-loop-j : goal.decreases-loop-j
decreases-loop-j l = length l.line - l.j
