-- The proof of the cycle of calls {spans_in}. The measure is the line's length: a label is shorter than its line.
-- Assumes nothing.
use Prim.Native.Nat.{◌-◌}
use lib.ListN.{length}
use Rattle.spans.specs.State.{Known}
use Rattle.spans.proofs.Loop.{Walking}
use Rattle.spans.proofs.+spans_in.Given as goal

abbrev pub invariant-loop-w : goal.invariant-loop-w
invariant-loop-w l = Walking l.around.bold l.around.italic l.line l.initial.out l.at l.w l.out × Known l.line l.w.i l.seen

abbrev pub decreases-loop-w : goal.decreases-loop-w
decreases-loop-w l = length l.line - l.w.i

abbrev pub decreases-spans_in : goal.decreases-spans_in
decreases-spans_in l = length l.line.now
