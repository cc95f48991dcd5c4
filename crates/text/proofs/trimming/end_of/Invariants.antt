-- `text::end_of` meets its contract. The loop's invariant: the first e bytes trim to what all trim to.
-- Assumes nothing.
use Prim.Native.Nat.{◌≤◌}
use mathlib.Core.Path.{◌≡◌}
use lib.ListN.{length, take}
use Rattle.text.specs.Utf8.{chars}
use Rattle.text.specs.Trim.{trim_end}
use Rattle.text.proofs.trimming.end_of.Given as goal

abbrev pub invariant-loop-e : goal.invariant-loop-e
invariant-loop-e l = (trim_end (chars (take l.e l.s)) ≡ trim_end (chars l.s)) × (l.e ≤ length l.s)

abbrev pub decreases-loop-e : goal.decreases-loop-e
decreases-loop-e l = l.e
