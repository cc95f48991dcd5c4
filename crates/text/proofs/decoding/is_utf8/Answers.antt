-- `text::is_utf8` meets its contract. The loop's invariant: whether the whole is UTF-8 is whether what is left is.
-- Assumes nothing.
use Prim.Native.Nat.{◌+◌}
use native.Mathlib.Omega.{arith}
use mathlib.Core.Path.{sym, ◌∙◌}
use Rattle.text.specs.Chars.{is_ascii}
use Rattle.text.specs.Utf8.{is_utf8}
use Rattle.text.proofs.Sizes.{size_is, no_size}
use Rattle.text.proofs.Laws.{Step, no_char, some_char, stuck, scalar_is}
use Rattle.text.proofs.RunLaws.{at_start, past_one}
use Rattle.text.proofs.AsciiLaws.{low_ascii, run_to}
use Rattle.text.proofs.decoding.is_utf8.Goals as goal
use Rattle.text.proofs.decoding.is_utf8.Goals.{In-Some-char_size}

pub loop-i-preserved-then-e-i : goal.loop-i-preserved-then-e-i
loop-i-preserved-then-e-i c = let r = c.ascii_blocks-e.ensures in (c.loop-i.invariant.0 ∙ run_to _ _ _ r, r.high)

pub loop-i-preserved-then-s-i-lt128 : goal.loop-i-preserved-then-s-i-lt128
loop-i-preserved-then-s-i-lt128 c =
    let s = c.args.s.now in
    let i = c.loop-i.i in
    (c.loop-i.invariant.0 ∙ run_to s i (i + 1) (past_one is_ascii s i i (at_start is_ascii s i (omega arith)) (omega arith) (low_ascii _ c.if-s-i-lt128.true)), omega arith)

pub loop-i-preserved-in-Some : goal.loop-i-preserved-in-Some
unfolding is_utf8
loop-i-preserved-in-Some c = let h = rw c.in-Some.is at c.past_block.ensures in (c.loop-i.invariant.0 ∙ h.0, h.1.1)

pub returns-in_default-char_size : goal.returns-in_default-char_size
unfolding is_utf8
returns-in_default-char_size c =
    let s = c.args.s.now in
    let i = c.loop-i.i in
    sym (c.loop-i.invariant.0 ∙ stuck s i (omega arith) (no_char s i (no_size _ (sym c.char_size.ensures ∙ c.in_default-char_size.is))))

-- the step over a character
step : (c : In-Some-char_size) → (x : _) × Step c.args.s.now c.loop-i.i x c.in-Some-char_size.n
step c =
    let n = size_is _ _ (sym c.char_size.ensures ∙ c.in-Some-char_size.is) in
    some_char _ _ _ n.0 (omega (arith, n.1))

pub overflow_add-i-in-loop-i : goal.overflow_add-i-in-loop-i
overflow_add-i-in-loop-i c = let h = (step c).1 in omega arith

pub loop-i-preserved : goal.loop-i-preserved
loop-i-preserved c =
    let h = (step c).1 in
    (c.loop-i.invariant.0 ∙ rw (h.rest, scalar_is _ h.scalar), h.bound)

pub returns : goal.returns
unfolding is_utf8
returns c = c.is_utf8_from.ensures ∙ sym c.loop-i.invariant.0
