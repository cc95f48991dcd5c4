-- `text::close_near` meets its contract. The loop's invariant: `-->` stands at no place from i up to j.
-- Assumes nothing.
use Prim.Native.Nat.{◌-◌}
use lib.ListN.{length}
use Rattle.text.specs.Words.{str}
use Rattle.text.specs.Run.{SeekTo}
use Rattle.text.proofs.search.close_near.Given as goal

abbrev pub invariant-loop-j : goal.invariant-loop-j
invariant-loop-j l = SeekTo (str "-->") l.s l.i l.j

abbrev pub decreases-loop-j : goal.decreases-loop-j
decreases-loop-j l = length l.s - l.j
