-- `sheet::line::line` meets its contract.
-- Assumes nothing.
use Rattle.std.proofs.Common.{length}
use Rattle.text.specs.Utf8.{chars}
use Rattle.sheet.proofs.TestLine.{LineTo}
use Rattle.sheet.proofs.line.line.Given as goal

abbrev pub invariant-loop-read : goal.invariant-loop-read
invariant-loop-read l = LineTo (chars l.page) (chars l.rest) l.runs

abbrev pub decreases-loop-read : goal.decreases-loop-read
decreases-loop-read l = length (chars l.rest)
