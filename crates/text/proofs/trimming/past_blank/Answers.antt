-- `text::past_blank` meets its contract.
-- Assumes nothing.
use Prim.Native.Nat.{◌+◌}
use native.Mathlib.Omega.{arith}
use Rattle.text.specs.Run.{RunTo}
use Rattle.text.specs.Trim.{is_blank}
use Rattle.text.proofs.RunLaws.{at_start, past_one, past_run}
use Rattle.text.proofs.trimming.past_blank.Goals as goal
use Rattle.text.proofs.trimming.past_blank.Goals.{Start}

-- the byte at i is passed
one : (c : Start) → RunTo is_blank c.args.s.now c.args.i (c.args.i + 1)
one c = past_one is_blank c.args.s.now c.args.i c.args.i (at_start is_blank _ _ (omega arith)) c.requires.0 c.requires.1

pub returns-then-j-ne0 : goal.returns-then-j-ne0
returns-then-j-ne0 c = (one (goal.at.returns-then-j-ne0 c).Start, omega arith)

pub returns : goal.returns
returns c =
    let run = c.past_blocks.ensures.run (omega arith) in
    let low = run.low in
    (past_run is_blank _ _ _ _ (one (goal.at.returns c).Start) run, omega arith)
