-- `text::is_utf8_from` meets its contract. The loop's invariant: whether the part from i on is UTF-8 is whether what is left is.
-- Assumes nothing.
use Prim.Native.Nat.{◌-◌, ◌≤◌}
use mathlib.Core.Path.{◌≡◌}
use lib.ListN.{length, drop}
use Rattle.text.specs.Words.{all}
use Rattle.text.specs.Chars.{is_scalar}
use Rattle.text.specs.Utf8.{chars}
use Rattle.text.proofs.decoding.is_utf8_from.Given as goal

abbrev pub invariant-loop-j : goal.invariant-loop-j
invariant-loop-j l = (all is_scalar (chars (drop l.i l.s)) ≡ all is_scalar (chars (drop l.j l.s))) × (l.j ≤ length l.s)

abbrev pub decreases-loop-j : goal.decreases-loop-j
decreases-loop-j l = length l.s - l.j
