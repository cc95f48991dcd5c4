-- `codes::scan::Scan::step`: once all words are those after the byte, they are those of the text with this byte.
-- Assumes nothing.
use Prim.Native.Nat.{ℕ, ◌*◌}
use mathlib.Core.Path.{ap}
use Rattle.codes.proofs.ScanLaws.{scan_next}
use Rattle.codes.proofs.scan.Scan.step.Goals as goal

pub returns : goal.returns
returns c codes r m s =
    let row = ap (λ (n : ℕ). n * 16) c.from-row.ensures in
    scan_next codes m s c.ranges.byte.fits row c.loop-i.invariant c.loop-i-test.false
