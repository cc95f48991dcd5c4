-- `writer::put_bytes`: what is left to store from here on makes the same list as the whole from the start.
-- Assumes nothing.
use Prim.Native.Nat.{ℕ}
use native.Mathlib.Nat.{add-zero}
use native.Mathlib.Omega.{arith}
use mathlib.Core.Path.{sym, ap, ◌∙◌}
use lib.Seq.{sets}
use Rattle.records.proofs.Stores.{sets_next, sets_rest}
use Rattle.records.proofs.writer.put_bytes.Goals as goal

pub loop-i-init : goal.loop-i-init
loop-i-init c = ap (λ (n : ℕ). sets c.args.out.now n c.args.s.now) (add-zero c.args.at)

pub loop-i-preserved : goal.loop-i-preserved
loop-i-preserved c =
    let a = c.args in
    let l = c.loop-i in
    sets_next l.out a.s.now a.at l.i (omega (arith, c.loop-i-test.true, c.min-n.ensures)) ∙ l.invariant

pub returns : goal.returns
returns c =
    let a = c.args in
    let l = c.loop-i in
    sym (sets_rest l.out a.s.now a.at l.i (omega (arith, c.loop-i-test.false, c.min-n.ensures, l.auto.out))) ∙ l.invariant
