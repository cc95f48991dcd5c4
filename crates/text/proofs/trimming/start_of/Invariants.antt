-- `text::start_of` meets its contract. The loop's invariant: what is left from i on trims to what all trims to.
-- Assumes nothing.
use Prim.Native.Nat.{◌-◌, ◌≤◌}
use mathlib.Core.Path.{◌≡◌}
use lib.ListN.{length, drop}
use Rattle.text.specs.Utf8.{chars}
use Rattle.text.specs.Trim.{trim_start}
use Rattle.text.proofs.trimming.start_of.Given as goal

abbrev pub invariant-loop-i : goal.invariant-loop-i
invariant-loop-i l = (trim_start (chars (drop l.i l.s)) ≡ trim_start (chars l.s)) × (l.i ≤ length l.s)

abbrev pub decreases-loop-i : goal.decreases-loop-i
decreases-loop-i l = length l.s - l.i
