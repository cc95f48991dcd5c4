-- `sections::heading_at`: each turn leaves the same answer to find, from the next offset on.
-- Assumes nothing.
use mathlib.Core.Path.{refl, sym, ◌∙◌}
use Rattle.walker.proofs.Decoded.{stands_here, ends_here, broken_here, turn_less}
use Rattle.sections.proofs.Turns.{left_all, left_here, left_further, left_end, left_bad}
use Rattle.sections.proofs.heading_at.Goals as goal

pub loop-block-init : goal.loop-block-init
loop-block-init c = left_all c.args.records.now c.args.title.now

pub returns-in_err-block : goal.returns-in_err-block
returns-in_err-block c = left_bad _ _ _ _ c.from_residual.ensures.0 (broken_here _ _ c.in_err-block.ensures) ∙ c.loop-block.invariant

pub returns-in-Some-titled_level : goal.returns-in-Some-titled_level
returns-in-Some-titled_level c =
    let w = stands_here _ _ c.type_inv.records c.in-Some.is c.in_ok-block.ensures in
    left_here _ _ _ c.in-Some.block.kind w _ refl (sym c.in-Some-titled_level.ensures) ∙ c.loop-block.invariant

pub loop-block-smaller : goal.loop-block-smaller
loop-block-smaller c = turn_less _ _ (stands_here _ _ c.type_inv.records c.in-Some.is c.in_ok-block.ensures)

pub loop-block-preserved : goal.loop-block-preserved
loop-block-preserved c =
    let w = stands_here _ _ c.type_inv.records c.in-Some.is c.in_ok-block.ensures in
    left_further _ _ _ c.in-Some.block.kind w _ refl (sym c.in_default-titled_level.ensures) ∙ c.loop-block.invariant

pub returns : goal.returns
returns c = left_end _ _ _ (ends_here _ _ c.in_default.is c.in_ok-block.ensures) ∙ c.loop-block.invariant
