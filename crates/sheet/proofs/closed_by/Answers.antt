-- `sheet::closed_by` meets its contract.
-- Assumes nothing.
use Rattle.text.specs.Utf8.{chars}
use Rattle.sheet.specs.Reader.{line}
use Rattle.sheet.specs.Written.{written_runs}
use Rattle.sheet.specs.Says.{Weighs}
use Rattle.sheet.specs.Forms.{led}
use Rattle.sheet.proofs.TestSays.{Got, says_no, got, answers, refuses}
use Rattle.sheet.proofs.TestBlocks.{closed_1, closed_2, closed_3, led_count}
use Rattle.sheet.proofs.closed_by.Goals as goal
use Rattle.sheet.proofs.closed_by.Goals.{In_ok-line}

-- the line was read
has_line : (c : In_ok-line) → Got (Weighs written_runs) (line (chars c.args.page.now)) c.in_ok-line.line
has_line c = got (Weighs written_runs) (line (chars c.args.page.now)) c.in_ok-line.ensures

pub returns-in_err-line : goal.returns-in_err-line
returns-in_err-line c =
    let s = chars c.args.page.now in
    refuses (Weighs (led c.args.lead)) (closed_1 c.args.tag.now s (says_no (Weighs written_runs) (line s) c.in_err-line.ensures)) c.from_residual.ensures

pub returns-in_err-rest : goal.returns-in_err-rest
returns-in_err-rest c =
    let a = c.args in
    let l = has_line (goal.at.returns-in_err-rest c).In_ok-line in
    refuses (Weighs (led a.lead)) (closed_2 a.tag.now (chars a.page.now) l.what _ l.is c.in_err-rest.ensures) c.from_residual-in_err-rest.ensures

pub returns : goal.returns
returns c =
    let a = c.args in
    let l = has_line (goal.at.returns c).In_ok-line in
    answers (Weighs (led a.lead)) _ (closed_3 a.tag.now (chars a.page.now) l.what _ l.is c.in_ok-rest.ensures) (led_count a.lead l.what c.ascii.ensures l.value c.add.ensures)
