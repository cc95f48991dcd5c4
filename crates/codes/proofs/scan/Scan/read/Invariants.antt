-- `codes::scan::Scan::read`: the words are those of the text before, with the bytes that were taken behind it.
-- Assumes nothing.
use Rattle.std.specs.Prelude.{take, reverse}
use Rattle.codes.specs.Readers.{Further}
use Rattle.codes.proofs.scan.Scan.read.Given as goal

abbrev pub invariant-loop-byte : goal.invariant-loop-byte
invariant-loop-byte l = Further (reverse (take l.byte-index l.text)) l.masks l.initial.self l.self
