-- `markdown::lines::next_line` meets its contract.
-- Assumes nothing.
use Rattle.markdown.proofs.Reading.{quiet_passed, passing_other, passed_break, passed_end, passed_comment}
use lib.ListN.{length}
use native.Mathlib.Omega.{arith}
use Prim.Native.Nat.{ℕ, ◌+◌}
use Rattle.markdown.specs.Parts.{lent, LineIs}
use mathlib.Core.Path.{◌≡◌, refl, sym, subst, ◌∙◌}
use Rattle.markdown.proofs.lines.next_line.Goals as goal

pub loop-j-init : goal.loop-j-init
loop-j-init c = (quiet_passed _ _ _ c.requires.0 (c.past_blocks-start.ensures.run c.requires.0), refl)

pub returns-then-b-eq10 : goal.returns-then-b-eq10
returns-then-b-eq10 c = rw (c.loop-j.invariant.1, c.lent.ensures) (passed_break _ _ _ c.loop-j.invariant.0 _ c.loop-j-test.true c.if-b-eq10.true)

pub returns-then-stands_at : goal.returns-then-stands_at
returns-then-stands_at c = passed_comment _ _ _ c.loop-j.invariant.0 _ _ _ _ _ c.requires.1 c.loop-j.invariant.1 c.put_bytes.ensures c.commented.ensures

pub loop-j-preserved : goal.loop-j-preserved
loop-j-preserved c = (passing_other _ _ _ c.loop-j.invariant.0 c.loop-j-test.true c.if-b-eq10.false (sym c.stands_at.ensures ∙ c.if-stands_at.false), c.loop-j.invariant.1)

pub returns : goal.returns
returns c =
    let a = c.args in
    let v = c.loop-j.invariant in
    let e : c.loop-j.j ≡ length a.markdown.now = omega (arith, v.0.bound, c.loop-j-test.false) in
    rw c.lent-2.ensures (subst (λ (n : ℕ). LineIs a.markdown.now a.i a.work.now c.loop-j.work (record { text = lent a.i n; next = n + 1 })) e
    (rw v.1 (passed_end _ _ _ v.0 _ c.loop-j-test.false)))
