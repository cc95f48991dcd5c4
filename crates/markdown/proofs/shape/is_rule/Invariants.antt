-- `markdown::shape::is_rule` meets its contract. The loop's invariant: what was passed is ruled, and no mark.
-- Assumes nothing.
use Rattle.markdown.proofs.RuleLaws.{ruled, marks}
use Rattle.text.specs.Words.{all, any}
use lib.ListN.{length, drop}
use mathlib.Core.Path.{◌≡◌}
use Prim.Native.Nat.{◌≤◌}
use Rattle.markdown.proofs.shape.is_rule.Given as goal

abbrev pub invariant-loop-i : goal.invariant-loop-i
invariant-loop-i l = (all ruled (drop l.i l.line) ≡ all ruled l.line) × ((any marks (drop l.i l.line) ≡ any marks l.line) × (l.i ≤ length l.line))
