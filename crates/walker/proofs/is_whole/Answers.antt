-- `walker::is_whole`: what is left from the next block on is whole exactly if all is.
-- Assumes nothing.
use mathlib.Core.Path.{sym, ap, ◌∙◌}
use Rattle.walker.specs.Decoded.{is_whole}
use Rattle.walker.proofs.Decoded.{stands_here, ends_here, broken_here, turn_less, whole_next}
use Rattle.walker.proofs.is_whole.Goals as goal

pub loop-block-smaller : goal.loop-block-smaller
loop-block-smaller c = turn_less _ _ (stands_here _ _ c.type_inv.records c.in-Ok-Some.field-0-is c.in-Ok-Some.ensures)

pub loop-block-preserved : goal.loop-block-preserved
loop-block-preserved c =
    whole_next _ _ (stands_here _ _ c.type_inv.records c.in-Ok-Some.field-0-is c.in-Ok-Some.ensures) ∙ c.loop-block.invariant

pub returns-in-Ok-None : goal.returns-in-Ok-None
returns-in-Ok-None c = sym (ap is_whole (ends_here _ _ c.in-Ok-None.field-0-is c.in-Ok-None.ensures)) ∙ c.loop-block.invariant

pub returns-in-Err : goal.returns-in-Err
returns-in-Err c = sym (ap is_whole (broken_here _ _ c.in-Err.ensures)) ∙ c.loop-block.invariant
