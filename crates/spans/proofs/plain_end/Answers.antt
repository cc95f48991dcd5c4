-- `plain_end` meets its contract: what was passed is text.
-- Assumes nothing.
use native.Mathlib.Omega.{arith}
use mathlib.Core.Path.{◌≡◌, subst}
use Rattle.spans.specs.State.{PlainTo}
use Rattle.spans.proofs.Plain.{plain_passed}
use Rattle.spans.proofs.plain_end.Goals as goal

pub loop-j-2-init : goal.loop-j-2-init
loop-j-2-init c =
    let v = c.loop-j.invariant in
    let m = c.min-near.ensures in
    let e : c.loop-j.j ≡ c.min-near.result = omega (arith, c.loop-j-test.false, c.loop-j.auto.j-end, m, c.requires, c.saturating_add.ensures) in
    plain_passed c.args.line.now c.args.i _ _ (subst (PlainTo c.args.line.now c.args.i) e v) (c.past_blocks-j.ensures.run (omega (arith, m)))
