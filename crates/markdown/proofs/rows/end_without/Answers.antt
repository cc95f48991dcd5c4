-- `markdown::rows::end_without` meets its contract. The loop's invariant: the bytes that are left lose at their end what all lose.
-- Assumes nothing.
use Rattle.markdown.proofs.CellFill.{bars_stop, bars_next, bars_none}
use lib.Dec.{eqb}
use borrow.Author.Tests.{eq-eqb, ne_eqb}
use native.Mathlib.Omega.{arith}
use Prim.Native.Nat.{ℕ, ◌+◌, ◌-◌}
use mathlib.Core.Path.{◌≡◌}
use Rattle.markdown.proofs.rows.end_without.Goals as goal

pub returns-then-s-last : goal.returns-then-s-last
returns-then-s-last c =
    let b = c.args.b in
    let l = c.loop-last in
    let e : l.last - 1 + 1 ≡ l.last = omega (arith, c.loop-last-test.true) in
    rw e (bars_stop (λ (x : ℕ). eqb x b) _ _ l.invariant.0 c.loop-last-test.true l.invariant.1 (ne_eqb _ _ c.if-s-last.true), l.invariant.1)

pub loop-last-preserved : goal.loop-last-preserved
loop-last-preserved c =
    let b = c.args.b in
    let l = c.loop-last in
    (bars_next (λ (x : ℕ). eqb x b) _ _ l.invariant.0 c.loop-last-test.true l.invariant.1 (eq-eqb _ _ c.if-s-last.false), omega arith)

pub returns : goal.returns
returns c =
    let b = c.args.b in
    let e : c.loop-last.last ≡ 0 = omega (arith, c.loop-last-test.false) in
    (rw e at (bars_none (λ (x : ℕ). eqb x b) _ _ c.loop-last.invariant.0 c.loop-last-test.false), omega arith)
