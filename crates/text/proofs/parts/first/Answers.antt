-- `text::first` meets its contract. The loop's invariant: byte i is where character k stands.
-- Assumes nothing.
use Prim.Native.Nat.{◌+◌}
use native.Mathlib.Omega.{arith}
use mathlib.Core.Path.{sym, ap, ◌∙◌}
use lib.ListN.{length, length-drop, drop}
use lib.Seq.{take_all}
use Rattle.text.specs.Utf8.{chars, encode}
use Rattle.text.proofs.Laws.{Next, next_is, Pos, pos_next, encode_chars, chars_length}
use Rattle.text.proofs.AsciiLaws.{pos_ascii}
use Rattle.text.proofs.parts.first.Goals as goal
use Rattle.text.proofs.parts.first.Goals.{After-ascii_step-w, After-size_at-i}

-- the step over a character that is not ASCII
step : (c : After-size_at-i) → Next c.args.s.now c.loop-k.i c.size_at-i.result
step c = rw c.size_at-i.ensures (next_is _ _ (let h = c.loop-k.invariant.0.bound in omega arith))

-- the ASCII that a turn passes over
passed : (c : After-ascii_step-w) → Pos c.args.s.now (c.loop-k.i + c.ascii_step-w.result) (c.loop-k.k + c.ascii_step-w.result)
passed c = pos_ascii _ _ _ _ c.loop-k.invariant.0 (let h = c.ascii_step-w.ensures.1.1 in omega arith) c.ascii_step-w.ensures.0

pub returns-then-s-i : goal.returns-then-s-i
returns-then-s-i c =
    let s = c.args.s.now in
    let p = c.loop-k.invariant.0 in
    let b = p.bound in
    let h = chars_length (drop c.loop-k.i s) in
    let d = length-drop c.loop-k.i s in
    let e = length-drop c.loop-k.k (chars s) in
    let q = ap length p.left in
    sym (ap encode (take_all c.args.n (chars s) (omega arith)) ∙ encode_chars s)

pub loop-k-preserved-then-s-i-lt128 : goal.loop-k-preserved-then-s-i-lt128
loop-k-preserved-then-s-i-lt128 c = let h = c.ascii_step-w.ensures.1.1 in (passed c, omega arith)

pub overflow_add-i-in-loop-k : goal.overflow_add-i-in-loop-k
overflow_add-i-in-loop-k c = let h = step c in omega (arith, h.bound)

pub loop-k-preserved : goal.loop-k-preserved
loop-k-preserved c = (pos_next _ _ _ _ c.loop-k.invariant.0 (step c), omega arith)
