-- `sections::end_at`: each turn leaves the same end to find, from the next offset on.
-- Assumes nothing.
use Prim.Native.Nat.{◌-◌}
use mathlib.Core.Path.{◌≡◌}
use lib.ListN.{length}
use Rattle.sections.specs.Readers.{end_answer}
use Rattle.sections.proofs.end_at.Given as goal

abbrev pub invariant-loop-block : goal.invariant-loop-block
invariant-loop-block l = end_answer l.records l.at l.level ≡ end_answer l.records l.from l.level

abbrev pub decreases-loop-block : goal.decreases-loop-block
decreases-loop-block l = length l.records - l.at
