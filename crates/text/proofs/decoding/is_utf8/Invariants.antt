-- `text::is_utf8` meets its contract. The loop's invariant: whether the whole is UTF-8 is whether what is left is.
-- Assumes nothing.
use Prim.Native.Nat.{◌-◌, ◌≤◌}
use mathlib.Core.Path.{◌≡◌}
use lib.ListN.{length, drop}
use Rattle.text.specs.Words.{all}
use Rattle.text.specs.Chars.{is_scalar}
use Rattle.text.specs.Utf8.{chars}
use Rattle.text.proofs.decoding.is_utf8.Given as goal

abbrev pub invariant-loop-i : goal.invariant-loop-i
invariant-loop-i l = (all is_scalar (chars l.s) ≡ all is_scalar (chars (drop l.i l.s))) × (l.i ≤ length l.s)

abbrev pub decreases-loop-i : goal.decreases-loop-i
decreases-loop-i l = length l.s - l.i
