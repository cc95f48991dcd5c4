-- `walker::is_whole`: what is left from the next block on is whole exactly if all is.
-- Assumes nothing.
use Prim.Native.Nat.{◌-◌}
use mathlib.Core.Path.{◌≡◌}
use lib.ListN.{length}
use Rattle.walker.specs.Decoded.{blocks_from, is_whole}
use Rattle.walker.proofs.is_whole.Given as goal

abbrev pub invariant-loop-block : goal.invariant-loop-block
invariant-loop-block l = is_whole (blocks_from l.records l.at) ≡ is_whole (blocks_from l.records l.from)

abbrev pub decreases-loop-block : goal.decreases-loop-block
decreases-loop-block l = length l.records - l.at
