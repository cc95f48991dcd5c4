-- `sections::end_at`: each turn leaves the same end to find, from the next offset on.
-- Assumes nothing.
use mathlib.Core.Path.{sym, ◌∙◌}
use Rattle.walker.proofs.Decoded.{stands_here, ends_here, broken_here, turn_less}
use Rattle.sections.proofs.Turns.{end_here, end_next, end_end, end_bad}
use Rattle.sections.proofs.end_at.Goals as goal

pub returns-in_err-block : goal.returns-in_err-block
returns-in_err-block c = end_bad _ _ _ _ c.from_residual.ensures.0 (broken_here _ _ c.in_err-block.ensures) ∙ c.loop-block.invariant

pub returns-then-closes : goal.returns-then-closes
returns-then-closes c =
    let w = stands_here _ _ c.type_inv.records c.in-Some.is c.in_ok-block.ensures in
    end_here _ _ _ c.in-Some.block.kind w (sym c.closes.ensures ∙ c.if-closes.true) ∙ c.loop-block.invariant

pub loop-block-smaller : goal.loop-block-smaller
loop-block-smaller c = turn_less _ _ (stands_here _ _ c.type_inv.records c.in-Some.is c.in_ok-block.ensures)

pub loop-block-preserved : goal.loop-block-preserved
loop-block-preserved c =
    let w = stands_here _ _ c.type_inv.records c.in-Some.is c.in_ok-block.ensures in
    end_next _ _ _ c.in-Some.block.kind w (sym c.closes.ensures ∙ c.if-closes.false) ∙ c.loop-block.invariant

pub returns : goal.returns
returns c = end_end _ _ _ (ends_here _ _ c.in_default.is c.in_ok-block.ensures) ∙ c.loop-block.invariant
