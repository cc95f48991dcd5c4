-- `codes::Found::add`: the codes before i have their numbers with this block.
-- Assumes nothing.
use Rattle.codes.specs.Readers.{Numbered}
use Rattle.codes.proofs.Found.add.Given as goal

abbrev pub invariant-loop-i : goal.invariant-loop-i
invariant-loop-i l = Numbered l.scan l.lengths l.initial.self l.self l.i
