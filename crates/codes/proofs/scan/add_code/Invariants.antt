-- `codes::scan::add_code`: the bits of the code's first j bytes are set.
-- Assumes nothing.
use Rattle.codes.proofs.MaskLaws.{Added}
use Rattle.codes.proofs.scan.add_code.Given as goal

abbrev pub invariant-loop-j : goal.invariant-loop-j
invariant-loop-j l = Added l.initial.masks l.masks l.i l.code l.j
