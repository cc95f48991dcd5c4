-- `markdown::shape::trimmed` meets its contract.
-- Assumes nothing.
use Rattle.markdown.proofs.PartLaws.{start_in, trimmed_is}
use native.Mathlib.Omega.{arith}
use Rattle.markdown.proofs.shape.trimmed.Goals as goal

pub overflow_add-start : goal.overflow_add-start
overflow_add-start c = omega (arith, start_in _ _ _ _ c.requires (rw c.of.ensures.bytes at c.start_of.ensures), c.requires.bound)

pub of-requires-2 : goal.of-requires-2
of-requires-2 c = record { order = start_in _ _ _ _ c.requires (rw c.of.ensures.bytes at c.start_of.ensures); bound = c.requires.bound }

pub overflow_add-result : goal.overflow_add-result
overflow_add-result c = let v = trimmed_is _ _ _ _ _ c.requires (rw c.of.ensures.bytes at c.start_of.ensures) (rw c.of-2.ensures.bytes at c.end_of.ensures) in omega (arith, v.high, c.requires.bound)

pub returns : goal.returns
returns c = trimmed_is _ _ _ _ _ c.requires (rw c.of.ensures.bytes at c.start_of.ensures) (rw c.of-2.ensures.bytes at c.end_of.ensures)
