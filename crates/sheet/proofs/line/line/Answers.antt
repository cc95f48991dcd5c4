-- `sheet::line::line` meets its contract.
-- Assumes nothing.
use Rattle.std.proofs.Common.{refl}
use Rattle.text.specs.Utf8.{chars}
use Rattle.sheet.specs.Reader.{one_run}
use Rattle.sheet.specs.Written.{written_runs}
use Rattle.sheet.specs.Says.{Weighs}
use Rattle.sheet.specs.Keeps.{IsRun}
use Rattle.sheet.proofs.Shrinks.{run_shrinks}
use Rattle.sheet.proofs.TestSays.{says_no, got, answers, refuses}
use Rattle.sheet.proofs.TestLine.{line_next, line_yes, line_no}
use Rattle.sheet.proofs.line.line.Goals as goal

pub loop-read-smaller : goal.loop-read-smaller
loop-read-smaller c =
    let s = chars c.loop-read.rest.now in
    run_shrinks s _ (got IsRun (one_run s) c.in-Some.ensures).is

pub loop-read-preserved : goal.loop-read-preserved
loop-read-preserved c = line_next c.loop-read.invariant (got IsRun (one_run (chars c.loop-read.rest.now)) c.in-Some.ensures) c.push-runs.ensures

pub returns-then-runs : goal.returns-then-runs
returns-then-runs c =
    let l = c.loop-read in
    let y = line_yes (record { value = l.runs; rest = l.rest }) l.invariant (says_no IsRun (one_run (chars l.rest.now)) c.in_default.ensures) c.if-runs.true in
    answers (Weighs written_runs) _ y.1 y.2

pub returns : goal.returns
returns c =
    let l = c.loop-read in
    refuses (Weighs written_runs) (line_no (record { value = l.runs; rest = l.rest }) l.invariant (says_no IsRun (one_run (chars l.rest.now)) c.in_default.ensures) c.if-runs.false) refl
