-- `markdown::shape::is_rule` meets its contract. The loop's invariant: what was passed is ruled, and no mark.
-- Assumes nothing.
use Rattle.markdown.proofs.RuleLaws.{rule_short, rule_not, rule_is, ruled_next, ruled_stop, marks_none, marks_some, mark_ruled, rule_marked}
use lib.ListN.{get_or, drop_of_length-le}
use native.Mathlib.Omega.{arith}
use mathlib.Core.Path.{sym, ◌∙◌}
use mathlib.Core.Bool.{false}
use Rattle.markdown.proofs.shape.is_rule.Goals as goal

pub returns-then-line-lt3 : goal.returns-then-line-lt3
returns-then-line-lt3 c = rule_short _ c.if-line-lt3.true

pub bounds-line-i : goal.bounds-line-i
bounds-line-i c = c.loop-i-test.true

pub all_ruled-requires : goal.all_ruled-requires
all_ruled-requires c = omega (arith, c.loop-i-test.true)

pub returns-then-is_mark : goal.returns-then-is_mark
returns-then-is_mark c =
    let e = sym c.is_mark.ensures ∙ c.if-is_mark.true in
    rule_marked _ _ c.if-line-lt3.false (sym c.loop-i.invariant.1.0 ∙ marks_some _ _ c.loop-i-test.true e)
    (c.all_ruled.ensures ∙ sym (ruled_next _ _ c.loop-i-test.true (mark_ruled (get_or c.args.line.now c.loop-i.i 0) e)) ∙ c.loop-i.invariant.0)

pub returns-then-not-is_ruled : goal.returns-then-not-is_ruled
returns-then-not-is_ruled c = rule_not _ (sym c.loop-i.invariant.0 ∙ ruled_stop _ _ c.loop-i-test.true (sym c.is_ruled.ensures ∙ c.if-not-is_ruled.true))

pub loop-i-preserved : goal.loop-i-preserved
loop-i-preserved c = (
  sym (ruled_next _ _ c.loop-i-test.true (sym c.is_ruled.ensures ∙ c.if-not-is_ruled.false)) ∙ c.loop-i.invariant.0,
  (sym (marks_none _ _ c.loop-i-test.true (sym c.is_mark.ensures ∙ c.if-is_mark.false)) ∙ c.loop-i.invariant.1.0, omega arith),
)

pub returns : goal.returns
returns c =
    let d = drop_of_length-le c.args.line.now c.loop-i-test.false in
    rule_is _ false c.if-line-lt3.false (sym (rw d at c.loop-i.invariant.0)) (rw d at c.loop-i.invariant.1.0)
