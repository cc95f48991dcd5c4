-- `key` meets its contract.
-- Assumes nothing.
-- What is read so far and what is left of the name give its number.
use mathlib.Core.Path.{sym, ◌∙◌}
use native.Mathlib.Omega.{arith}
use Rattle.html.proofs.NameLaws.{Next, keyed_all, keyed_over, keyed_next, name_end, name_stop}
use Rattle.html.proofs.names.key.Goals as goal
use Rattle.html.proofs.names.key.Goals.{Else-i-eq10}

-- the next digit, after the tests of a turn
next : (c : Else-i-eq10) → Next c.args.s.now c.loop-i.k c.loop-i.i c.in-Some.b
next c =
    let l = c.loop-i in
    keyed_next _ l.k l.i l.invariant _ c.loop-i-test.true (sym c.folded.ensures ∙ c.in-Some.is) c.if-i-eq10.false

pub returns-in_default : goal.returns-in_default
returns-in_default c =
    let s = c.args.s.now in
    let l = c.loop-i in
    keyed_all s l.k l.i l.invariant (name_stop s l.i c.loop-i-test.true (sym c.folded.ensures ∙ c.in_default.is))

pub returns-then-i-eq10 : goal.returns-then-i-eq10
returns-then-i-eq10 c =
    let s = c.args.s.now in
    let l = c.loop-i in
    keyed_over s l.k l.i l.invariant _ c.loop-i-test.true (sym c.folded.ensures ∙ c.in-Some.is) c.if-i-eq10.true

pub overflow_mul-k : goal.overflow_mul-k
overflow_mul-k c = omega (arith, (next c).fits)

pub overflow_sub-b : goal.overflow_sub-b
overflow_sub-b c = omega (arith, (next c).low)

pub overflow_add-k : goal.overflow_add-k
overflow_add-k c = omega (arith, (next (goal.at.overflow_add-k c).Else-i-eq10).fits)

pub loop-i-preserved : goal.loop-i-preserved
loop-i-preserved c = rw c.from.ensures (next (goal.at.loop-i-preserved c).Else-i-eq10).keyed

pub returns : goal.returns
returns c =
    let s = c.args.s.now in
    let l = c.loop-i in
    keyed_all s l.k l.i l.invariant (name_end s l.i c.loop-i-test.false)
