-- `text::start_of` meets its contract. The loop's invariant: what is left from i on trims to what all trims to.
-- Assumes nothing.
use Prim.Native.Nat.{◌+◌, ◌≤◌, ◌<◌}
use native.Mathlib.Omega.{arith}
use mathlib.Core.Path.{◌≡◌, sym, ◌∙◌}
use lib.ListN.{length, drop}
use Rattle.text.specs.Words.{drop_while}
use Rattle.text.specs.Utf8.{chars}
use Rattle.text.specs.Trim.{trim_start}
use Rattle.text.proofs.Laws.{advance_end}
use Rattle.text.proofs.TrimLaws.{start_at}
use Rattle.text.proofs.Sizes.{size_is, no_size}
use Rattle.text.proofs.WideLaws.{blanks_gone, wide_gone, none_gone}
use Rattle.text.proofs.trimming.start_of.Goals as goal
use Rattle.text.proofs.trimming.start_of.Goals.{In-Some}

pub loop-i-preserved-then-has : goal.loop-i-preserved-then-has
loop-i-preserved-then-has c = (sym (blanks_gone _ _ _ c.past_blank-i.ensures.0) ∙ c.loop-i.invariant.0, c.past_blank-i.ensures.0.high)

pub returns-in_default : goal.returns-in_default
returns-in_default c =
    let v = c.loop-i.invariant in
    sym (start_at _ _ v.1 (sym v.0 ∙ none_gone c.args.s.now c.loop-i.i c.loop-i-test.true (sym c.has.ensures ∙ c.if-has.false) (no_size _ (sym c.wide_space.ensures ∙ c.in_default.is))))

-- the space that a turn takes off
gone : (c : In-Some)
    → (0 < c.in-Some.k) × (c.loop-i.i + c.in-Some.k ≤ length c.args.s.now)
    × (trim_start (chars (drop c.loop-i.i c.args.s.now)) ≡ trim_start (chars (drop (c.loop-i.i + c.in-Some.k) c.args.s.now)))
gone c =
    let k = size_is _ _ (sym c.wide_space.ensures ∙ c.in-Some.is) in
    let h = wide_gone c.args.s.now c.loop-i.i c.loop-i-test.true _ k.0 (omega (arith, k.1)) in
    (k.1, h.0, h.1)

pub overflow_add-i : goal.overflow_add-i
overflow_add-i c = omega (arith, (gone c).1)

pub loop-i-preserved : goal.loop-i-preserved
loop-i-preserved c = (sym (gone c).2 ∙ c.loop-i.invariant.0, (gone c).1)

pub returns : goal.returns
unfolding drop_while
returns c =
    let v = c.loop-i.invariant in
    sym (start_at _ _ v.1 (sym v.0 ∙ rw (advance_end _ _ c.loop-i-test.false)))
