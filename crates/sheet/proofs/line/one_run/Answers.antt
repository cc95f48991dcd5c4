-- `sheet::line::one_run` meets its contract.
-- Assumes nothing.
use Rattle.std.proofs.Common.{refl, sym, ◌∙◌}
use Rattle.text.specs.Utf8.{chars}
use Rattle.sheet.specs.Keeps.{IsRun}
use Rattle.sheet.proofs.TestSays.{answers, refuses}
use Rattle.sheet.proofs.TestRuns.{run_1, run_2, run_3, run_text}
use Rattle.sheet.proofs.line.one_run.Goals as goal

pub returns-then-not-suits : goal.returns-then-not-suits
returns-then-not-suits c =
    refuses IsRun (run_1 (chars c.args.page.now) c.opening-opening.result c.opening-opening.ensures _ c.passage-passage.ensures (sym c.suits.ensures ∙ c.if-not-suits.true)) refl

pub returns-in_err-rest : goal.returns-in_err-rest
returns-in_err-rest c =
    refuses IsRun
    (run_2 (chars c.args.page.now) c.opening-opening.result c.opening-opening.ensures _ c.passage-passage.ensures (sym c.suits.ensures ∙ c.if-not-suits.false) c.in_err-rest.ensures)
    c.from_residual.ensures

pub returns : goal.returns
returns c =
    let h = sym c.suits.ensures ∙ c.if-not-suits.false in
    let s = chars c.args.page.now in
    answers IsRun _
    (run_3 s c.opening-opening.result c.opening-opening.ensures _ c.passage-passage.ensures h c.in_ok-rest.ensures)
    (refl, run_text s c.opening-opening.result c.opening-opening.ensures _ c.passage-passage.ensures h)
