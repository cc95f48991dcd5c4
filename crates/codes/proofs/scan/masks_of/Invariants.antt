-- `codes::scan::masks_of`: the bits of the codes before i are set, and `from` is where code i starts.
-- Assumes nothing.
use Rattle.codes.proofs.MaskLaws.{Filled}
use Rattle.codes.proofs.scan.masks_of.Given as goal

abbrev pub invariant-loop-i : goal.invariant-loop-i
invariant-loop-i l = Filled l.codes l.lengths l.masks l.from l.i
