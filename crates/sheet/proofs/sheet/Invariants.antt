-- `sheet::sheet` meets its contract: refusal 1, no, or yes with both counts, for every page.
-- Assumes nothing.
use Rattle.std.proofs.Common.{length}
use Rattle.text.specs.Utf8.{chars}
use Rattle.sheet.proofs.TestPage.{BlocksTo}
use Rattle.sheet.proofs.sheet.Given as goal

abbrev pub invariant-loop-read : goal.invariant-loop-read
invariant-loop-read l = BlocksTo (chars l.initial.rest) (chars l.rest) l.count

abbrev pub decreases-loop-read : goal.decreases-loop-read
decreases-loop-read l = length (chars l.rest)
