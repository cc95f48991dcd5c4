-- `text::is_utf8_from` meets its contract. The loop's invariant: whether the part from i on is UTF-8 is whether what is left is.
-- Assumes nothing.
use native.Mathlib.Omega.{arith}
use mathlib.Core.Path.{sym, ◌∙◌}
use Rattle.text.specs.Utf8.{is_utf8}
use Rattle.text.proofs.Sizes.{size_is, no_size}
use Rattle.text.proofs.Laws.{Step, advance_end, no_char, some_char, stuck, scalar_is}
use Rattle.text.proofs.decoding.is_utf8_from.Goals as goal
use Rattle.text.proofs.decoding.is_utf8_from.Goals.{In-Some}

pub returns-in_default : goal.returns-in_default
unfolding is_utf8
returns-in_default c = sym (c.loop-j.invariant.0 ∙ stuck _ _ c.loop-j-test.true (no_char c.args.s.now c.loop-j.j (no_size _ (sym c.char_size.ensures ∙ c.in_default.is))))

-- the step over a character
step : (c : In-Some) → (x : _) × Step c.args.s.now c.loop-j.j x c.in-Some.n
step c =
    let n = size_is _ _ (sym c.char_size.ensures ∙ c.in-Some.is) in
    some_char _ _ _ n.0 (omega (arith, n.1))

pub overflow_add-j : goal.overflow_add-j
overflow_add-j c = let h = (step c).1 in omega arith

pub loop-j-preserved : goal.loop-j-preserved
loop-j-preserved c =
    let h = (step c).1 in
    (c.loop-j.invariant.0 ∙ rw (h.rest, scalar_is _ h.scalar), h.bound)

pub returns : goal.returns
unfolding is_utf8
returns c = sym (c.loop-j.invariant.0 ∙ rw (advance_end _ _ c.loop-j-test.false))
