-- `text::cut_end` meets its contract. The loop's invariant: no character that starts less than k bytes before n goes on past it.
-- Assumes nothing.
use native.Mathlib.Omega.{arith}
use mathlib.Core.Path.{◌≡◌, sym, ◌∙◌}
use Rattle.text.proofs.CutLaws.{reach, cut_at, cut_nowhere}
use Rattle.text.proofs.parts.cut_end.Goals as goal

pub overflow_sub-result : goal.overflow_sub-result
overflow_sub-result c = let h = reach _ _ _ (sym c.is_split.ensures ∙ c.if-is_split.true) in omega arith

pub returns-then-is_split : goal.returns-then-is_split
returns-then-is_split c = cut_at c.args.s.now c.args.n c.loop-k.k (omega arith) (omega arith) c.loop-k.invariant (sym c.is_split.ensures ∙ c.if-is_split.true)

pub returns : goal.returns
returns c = let e : c.loop-k.k ≡ 4 = omega arith in cut_nowhere c.args.s.now c.args.n (rw e at c.loop-k.invariant)
