-- `codes::find_codes`: the blocks before the offset are read, and the codes that stand in them have their numbers.
-- Assumes nothing.
use Prim.Native.Nat.{◌-◌}
use lib.ListN.{length}
use Rattle.codes.specs.Calls.{divided}
use Rattle.codes.proofs.WalkLaws.{Walks}
use Rattle.codes.proofs.find_codes.Given as goal

abbrev pub invariant-loop-masks : goal.invariant-loop-masks
invariant-loop-masks l = Walks l.records (divided l.codes l.lengths) l.at l.found

abbrev pub decreases-loop-masks : goal.decreases-loop-masks
decreases-loop-masks l = length l.records - l.at
