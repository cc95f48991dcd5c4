-- `text::end_of` meets its contract. The loop's invariant: the first e bytes trim to what all trim to.
-- Assumes nothing.
use Prim.Native.Nat.{◌≤◌, ◌<◌, ◌-◌}
use native.Mathlib.Omega.{arith}
use mathlib.Core.Path.{◌≡◌, sym, ◌∙◌}
use lib.ListN.{take}
use Rattle.text.specs.Utf8.{chars}
use Rattle.text.specs.Trim.{trim_end}
use Rattle.text.proofs.TrimLaws.{end_at, end_nil, end_low_space, end_low_other, end_space, end_other}
use Rattle.text.proofs.Sizes.{size_is, no_size}
use Rattle.text.proofs.WideLaws.{blank_yes, blank_no}
use Rattle.text.proofs.trimming.end_of.Goals as goal
use Rattle.text.proofs.trimming.end_of.Goals.{In-Some}

-- the space, not ASCII, that a turn takes off
gone : (c : In-Some)
    → (0 < c.in-Some.k) × (c.in-Some.k ≤ c.loop-e.e)
    × (trim_end (chars (take c.loop-e.e c.args.s.now))
    ≡ trim_end (chars (take (c.loop-e.e - c.in-Some.k) c.args.s.now)))
gone c =
    let k = size_is _ _ (sym c.space_before.ensures ∙ c.in-Some.is) in
    let h = end_space _ _ _ k.0 (omega (arith, k.1)) in
    (k.1, h.0, h.1)

pub loop-e-preserved-then-has : goal.loop-e-preserved-then-has
loop-e-preserved-then-has c =
    let v = c.loop-e.invariant in
    let y = blank_yes _ (sym c.has.ensures ∙ c.if-has.true) in
    (sym (end_low_space c.args.s.now c.loop-e.e (omega arith) v.1 y.0 y.1) ∙ v.0, omega arith)

pub returns-then-b-lt128 : goal.returns-then-b-lt128
returns-then-b-lt128 c =
    let v = c.loop-e.invariant in
    sym (end_at _ _ v.1 (sym v.0 ∙ end_low_other c.args.s.now c.loop-e.e (omega arith) v.1 c.if-b-lt128.true (blank_no _ c.if-b-lt128.true (sym c.has.ensures ∙ c.if-has.false))))

pub returns-in_default : goal.returns-in_default
returns-in_default c =
    let v = c.loop-e.invariant in
    sym (end_at _ _ v.1 (sym v.0 ∙ end_other _ _ v.1 (no_size _ (sym c.space_before.ensures ∙ c.in_default.is))))

pub overflow_sub-e-in-loop-e : goal.overflow_sub-e-in-loop-e
overflow_sub-e-in-loop-e c = (gone c).1

pub loop-e-preserved : goal.loop-e-preserved
loop-e-preserved c = (sym (gone c).2 ∙ c.loop-e.invariant.0, omega arith)

pub returns : goal.returns
returns c =
    let v = c.loop-e.invariant in
    sym (end_at _ _ v.1 (sym v.0 ∙ end_nil c.args.s.now c.loop-e.e (omega arith)))
