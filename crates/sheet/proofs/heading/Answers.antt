-- `sheet::heading` meets its contract.
-- Assumes nothing.
use Rattle.std.proofs.Common.{refl, ◌∙◌, ap, ℕ, min}
use Rattle.sheet.specs.Says.{Weighs}
use Rattle.sheet.specs.Forms.{block_form}
use Rattle.sheet.proofs.TestSays.{refuses}
use Rattle.sheet.proofs.TestBlocks.{no_heading, no_heading_end, headed_none, headed_some}
use Rattle.sheet.proofs.heading.Goals as goal

pub returns-in_err-digit : goal.returns-in_err-digit
returns-in_err-digit c = refuses (Weighs block_form) (no_heading_end c.args.page.now c.in_err-digit.ensures.cases) c.from_residual.ensures

pub returns-then-digit : goal.returns-then-digit
returns-then-digit c =
    refuses (Weighs block_form) (rw c.in_ok-digit.ensures.cases.0 (no_heading _ c.in_ok-digit.after.now c.if-digit.true)) refl

pub returns-in_err-start : goal.returns-in_err-start
returns-in_err-start c =
    refuses (Weighs block_form)
    (rw c.in_ok-digit.ensures.cases.0 (headed_none _ c.in_ok-digit.after.now c.if-digit.false c.in_err-start.ensures))
    c.from_residual-in_err-start.ensures

pub returns : goal.returns
returns c =
    rw c.in_ok-digit.ensures.cases.0 (headed_some _ c.in_ok-digit.after.now c.if-digit.false c.in_ok-start.ensures
    (c.min.ensures ∙ ap (λ (n : ℕ). min n 3) c.from.ensures) c.closed_by.result c.closed_by.ensures)
