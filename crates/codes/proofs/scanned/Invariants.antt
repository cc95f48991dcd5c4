-- `codes::scanned`: what is known is that of the texts of the spans before the next one.
-- Assumes nothing.
use Rattle.codes.proofs.BlockLaws.{Reads}
use Rattle.codes.proofs.scanned.Given as goal

abbrev pub invariant-loop-n : goal.invariant-loop-n
invariant-loop-n l = Reads l.records l.at l.count l.here l._n l.masks l.scan
