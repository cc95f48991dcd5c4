-- `sections::heading_at`: each turn leaves the same answer to find, from the next offset on.
-- Assumes nothing.
use Prim.Native.Nat.{◌-◌}
use mathlib.Core.Path.{◌≡◌}
use lib.ListN.{length}
use Rattle.sections.specs.Calls.{section_answer}
use Rattle.sections.specs.Readers.{answer_from}
use Rattle.sections.proofs.heading_at.Given as goal

abbrev pub invariant-loop-block : goal.invariant-loop-block
invariant-loop-block l = answer_from l.records l.title l.at ≡ section_answer l.records l.title

abbrev pub decreases-loop-block : goal.decreases-loop-block
decreases-loop-block l = length l.records - l.at
