-- `sheet::passage::passage` meets its contract.
-- Assumes nothing.
use Rattle.std.proofs.Common.{length}
use Rattle.text.specs.Utf8.{chars}
use Rattle.sheet.proofs.TestGist.{ScanTo}
use Rattle.sheet.proofs.passage.passage.Given as goal

abbrev pub invariant-loop-read : goal.invariant-loop-read
invariant-loop-read l = ScanTo (chars l.page) (chars l.rest) l.gist

abbrev pub decreases-loop-read : goal.decreases-loop-read
decreases-loop-read l = length (chars l.rest)
