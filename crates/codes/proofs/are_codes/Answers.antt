-- `codes::are_codes`: a length outside its range is one that the test does not let pass, and behind the last one the sum is that of all.
-- Assumes nothing.
use native.Mathlib.Omega.{arith}
use Rattle.std.proofs.lemmas.Bool.Decides.{nat_tests}
use Rattle.codes.proofs.LengthLaws.{tested_other, tested_all, many_refused, other_refused, by_sum}
use Rattle.codes.proofs.are_codes.Goals as goal

pub returns-then-lengths-gt16 : goal.returns-then-lengths-gt16
returns-then-lengths-gt16 c = many_refused _ _ c.if-lengths-gt16.true

pub returns-then-not-contains : goal.returns-then-not-contains
returns-then-not-contains c = other_refused _ _ (tested_other c.loop-n.invariant c.loop-n-test.true (grind (arith, nat_tests)))

pub returns : goal.returns
returns c = by_sum _ _ c.if-lengths-gt16.false (tested_all c.loop-n.invariant c.loop-n-test.false)
