-- The loop of `unspaced`: the spaces passed are those that go.
-- Assumes nothing.
use mathlib.Core.Path.{◌≡◌}
use Prim.Native.Nat.{◌≤◌}
use lib.ListN.{length, take}
use Rattle.text.specs.Words.{drop_while, is}
use Rattle.html.specs.Struct.{last_first}
use Rattle.html.proofs.output.unspaced.Given as goal

abbrev pub invariant-loop-rest : goal.invariant-loop-rest
invariant-loop-rest l =
    (length l.rest ≤ length l.written) × (l.rest ≡ take (length l.rest) l.written) × (drop_while (is " ") (last_first l.rest) ≡ drop_while (is " ") (last_first l.written))

abbrev pub decreases-loop-rest : goal.decreases-loop-rest
decreases-loop-rest l = length l.rest
