-- `codes::scan::Scan::step`: the words of the codes before i are those after the byte, the others still those before it.
-- Assumes nothing.
use Rattle.codes.proofs.ScanLaws.{Stepped}
use Rattle.codes.proofs.scan.Scan.step.Given as goal

abbrev pub invariant-loop-i : goal.invariant-loop-i
invariant-loop-i l = Stepped l.initial.self l.self l.masks l.row l.i
