-- `sheet::passage::passage` meets its contract.
-- Assumes nothing.
use Rattle.text.specs.Utf8.{chars}
use Rattle.sheet.specs.Reader.{char}
use Rattle.sheet.specs.Keeps.{IsCharacter}
use Rattle.sheet.proofs.Shrinks.{char_shrinks}
use Rattle.sheet.proofs.TestSays.{says_no, got}
use Rattle.sheet.proofs.TestGist.{scan_next, scan_ends}
use Rattle.sheet.proofs.passage.passage.Goals as goal

pub loop-read-smaller : goal.loop-read-smaller
loop-read-smaller c =
    let s = chars c.loop-read.rest.now in
    char_shrinks s _ (got IsCharacter (char s) c.in-Some.ensures).is

pub loop-read-preserved : goal.loop-read-preserved
loop-read-preserved c = scan_next c.loop-read.invariant (got IsCharacter (char (chars c.loop-read.rest.now)) c.in-Some.ensures) c.push-gist.ensures

pub returns : goal.returns
returns c = scan_ends _ c.loop-read.invariant (says_no IsCharacter (char (chars c.loop-read.rest.now)) c.in_default.ensures)
