-- `reference::some_digits` meets its contract. The loop's invariant: v and the digits to come make the number of all digits,
-- and v is as small as the digits passed make it.
-- Assumes nothing.
use native.Mathlib.Omega.{arith}
use mathlib.Core.Path.{◌≡◌, sym, ap, ◌∙◌}
use Prim.Native.Nat.{◌+◌, ◌*◌, ◌<◌, ◌^◌}
use lib.ListN.{get_or}
use Rattle.reference.specs.Unescape.{digit}
use Rattle.reference.specs.Answers.{value}
use Rattle.reference.proofs.DigitLaws.{room, fits, value_is, past_radix, digits_next, digits_stop, digits_end, no_digits, more_digits}
use Rattle.reference.proofs.some_digits.Goals as goal
use Rattle.reference.proofs.some_digits.Goals.{In_ok-v}

-- the digit read, and what it leaves room for
read : (c : In_ok-v) → c.in_ok-v.field-0 ≡ digit (get_or c.args.digits.now c.loop-b.b-index 0)
read c =
    let d = c.in_ok-v.ensures.value in
    d.1 ∙ sym (value_is c.from.result (omega arith)) ∙ ap digit c.from.ensures

next_room : (c : In_ok-v) → c.loop-b.v * c.args.radix + c.in_ok-v.field-0 < 2 ^ (4 * (c.loop-b.b-index + 1))
next_room c = room _ _ _ _ c.loop-b.invariant.1 (omega (arith, c.in_ok-v.ensures.value)) (omega arith)

pub returns-then-is_empty : goal.returns-then-is_empty
returns-then-is_empty c = sym (ap value (no_digits _ _ (sym c.is_empty.ensures ∙ c.if-is_empty.true)))

pub overflow_mul-v : goal.overflow_mul-v
overflow_mul-v c =
    let h : c.loop-b.v * c.args.radix + 0 < 2 ^ 32 = fits _ _ (room _ _ _ 0 c.loop-b.invariant.1 (omega arith) (omega arith)) (omega arith) in
    omega arith

pub returns-in_err-v : goal.returns-in_err-v
returns-in_err-v c =
    let a = c.args in
    c.from_residual.ensures
    ∙ sym
    (ap value
    (more_digits a.radix a.digits.now (sym c.is_empty.ensures ∙ c.if-is_empty.false)
    ∙ c.loop-b.invariant.0
    ∙ digits_stop a.radix c.loop-b.v a.digits.now c.loop-b.b-index _ c.loop-b-test.true (ap digit c.from.ensures) (past_radix _ _ (omega arith) c.in_err-v.ensures.value)))

pub overflow_add-v : goal.overflow_add-v
overflow_add-v c = record { fits = fits _ _ (next_room c) (omega arith) }

pub loop-b-preserved : goal.loop-b-preserved
loop-b-preserved c =
    let a = c.args in (
      c.loop-b.invariant.0 ∙ digits_next a.radix c.loop-b.v a.digits.now c.loop-b.b-index _ c.loop-b-test.true (read c) (omega (arith, c.in_ok-v.ensures.value)),
      next_room c,
    )

pub returns : goal.returns
returns c =
    let a = c.args in
    sym
    (ap value
    (more_digits a.radix a.digits.now (sym c.is_empty.ensures ∙ c.if-is_empty.false)
    ∙ c.loop-b.invariant.0
    ∙ digits_end a.radix c.loop-b.v a.digits.now c.loop-b.b-index c.loop-b-test.false))
