-- `text::is_free_block` meets its contract. The loop's invariant: where none was found, there is none from i up to i + k.
-- Assumes nothing.
use native.Mathlib.Omega.{arith}
use mathlib.Core.Path.{◌≡◌}
use Prim.Native.Nat.{◌+◌}
use Rattle.text.proofs.Tests.{and_true}
use Rattle.text.proofs.SeekLaws.{seek_next, three_other}
use Rattle.text.proofs.search.is_free_block.Goals as goal

pub loop-k-preserved : goal.loop-k-preserved
loop-k-preserved c =
    let a = c.args in
    let l = c.loop-k in
    let n : a.i + l.k + 1 ≡ a.i + (l.k + 1) = omega arith in
    λ e.
    let q = and_true l.free _ e in
    rw n at (seek_next _ a.s.now a.i (a.i + l.k) (l.invariant q.0) (omega arith) (three_other a.s.now 45 45 62 (a.i + l.k) (omega arith) q.1))
