-- `markdown::shape::all_ruled` meets its contract. The loop's invariant: from j on all bytes are ruled if all are.
-- Assumes nothing.
use Rattle.markdown.proofs.RuleLaws.{ruled, ruled_next, ruled_run}
use Rattle.text.specs.Words.{all}
use lib.ListN.{drop}
use native.Mathlib.Omega.{arith}
use mathlib.Core.Path.{◌≡◌, sym, ◌∙◌}
use Prim.Native.Nat.{◌+◌}
use Rattle.markdown.proofs.shape.all_ruled.Goals as goal
use Rattle.markdown.proofs.shape.all_ruled.Goals.{Else-not-is_ruled}

-- the byte at j is passed
one : (c : Else-not-is_ruled) → all ruled (drop (c.loop-j.j + 1) c.args.line.now) ≡ all ruled (drop c.args.i c.args.line.now)
one c = sym (ruled_next _ _ c.loop-j-test.true (sym c.is_ruled.ensures ∙ c.if-not-is_ruled.false)) ∙ c.loop-j.invariant.0

pub loop-j-smaller-then-j-eq0 : goal.loop-j-smaller-then-j-eq0
loop-j-smaller-then-j-eq0 c =
    let run = c.past_blocks-j.ensures.run (omega (arith, c.loop-j-test.true)) in
    omega (arith, run.low, run.high)

pub loop-j-preserved-then-j-eq0 : goal.loop-j-preserved-then-j-eq0
loop-j-preserved-then-j-eq0 c =
    let run = c.past_blocks-j.ensures.run (omega (arith, c.loop-j-test.true)) in
    (sym (ruled_run _ _ _ run) ∙ one (goal.at.loop-j-preserved-then-j-eq0 c).Else-not-is_ruled, run.high)
