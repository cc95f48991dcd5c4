-- `markdown::lines::commented` meets its contract. The loop's invariant: what is stored and what is left make up the line.
-- Assumes nothing.
use Rattle.text.proofs.CloseLaws.{end_bounds}
use Rattle.markdown.proofs.Reading.{copied_break, copied_end, copied_comment, copied_other}
use native.Mathlib.Omega.{arith}
use mathlib.Core.Path.{sym, ◌∙◌}
use Rattle.markdown.proofs.lines.commented.Goals as goal

pub returns-then-b-eq10 : goal.returns-then-b-eq10
returns-then-b-eq10 c = rw c.copied.ensures (copied_break _ _ _ _ _ _ _ c.loop-j.invariant c.loop-j-test.true c.if-b-eq10.true)

pub loop-j-smaller-then-stands_at : goal.loop-j-smaller-then-stands_at
loop-j-smaller-then-stands_at c =
    let h = (end_bounds c.args.markdown.now c.loop-j.j (omega arith)).1 in
    let d = h.0 in
    omega (arith, c.comment_end-j.ensures, h.1 c.loop-j-test.true)

pub loop-j-preserved-then-stands_at : goal.loop-j-preserved-then-stands_at
loop-j-preserved-then-stands_at c = copied_comment _ _ _ _ _ _ _ c.loop-j.invariant _ c.loop-j-test.true (sym c.stands_at.ensures ∙ c.if-stands_at.true) c.comment_end-j.ensures

pub loop-j-preserved : goal.loop-j-preserved
loop-j-preserved c =
    let v = c.loop-j.invariant in
    copied_other _ _ _ _ _ _ _ v c.loop-j-test.true c.if-b-eq10.false (sym c.stands_at.ensures ∙ c.if-stands_at.false) (omega (arith, v.short, c.requires.1.0)) (omega (arith, v.size, c.requires.1.1))

pub returns : goal.returns
returns c = rw c.copied-2.ensures (copied_end _ _ _ _ _ _ _ c.loop-j.invariant c.loop-j-test.false)
