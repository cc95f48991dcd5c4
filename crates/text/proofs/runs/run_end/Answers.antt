-- `text::run_end` meets its contract. The loop's invariant: what it passed is of the class.
-- Assumes nothing.
use native.Mathlib.Omega.{arith}
use mathlib.Core.Path.{◌≡◌, sym, ◌∙◌}
use Prim.Native.Nat.{◌+◌}
use lib.ListN.{length}
use Rattle.text.proofs.Lists.{to_end_at, to_end_length}
use Rattle.text.proofs.RunLaws.{past_one, at_stop, at_end}
use Rattle.std.proofs.lemmas.List.{drop_all}
use Rattle.text.specs.Words.{take_while}
use Rattle.text.proofs.runs.run_end.Goals as goal

pub returns-then-s-i : goal.returns-then-s-i
unfolding take_while
returns-then-s-i g c = rw (drop_all c.args.i c.args.s.now (omega arith)) (omega arith)

pub loop-n-preserved : goal.loop-n-preserved
loop-n-preserved g c =
    let a = c.args in
    let e : a.i + c.loop-n.n + 1 ≡ a.i + (c.loop-n.n + 1) = omega arith in
    rw (← e) (past_one _ _ _ _ c.loop-n.invariant (omega (arith, to_end_length a.s.now a.i)) (rw (← to_end_at a.s.now a.i c.loop-n.n) (sym c.has.ensures ∙ c.if-not-has.false)))

pub returns-then-not-has : goal.returns-then-not-has
returns-then-not-has g c =
    let a = c.args in
    sym (at_stop _ _ _ _ c.loop-n.invariant (omega (arith, to_end_length a.s.now a.i)) (rw (← to_end_at a.s.now a.i c.loop-n.n) (sym c.has.ensures ∙ c.if-not-has.true)))

pub returns : goal.returns
returns g c = let q = c.loop-n.invariant.high in let e : c.args.i + c.loop-n.n ≡ length c.args.s.now = omega (arith, to_end_length c.args.s.now c.args.i) in
    sym (at_end _ _ _ _ (rw e at c.loop-n.invariant) (omega arith))
