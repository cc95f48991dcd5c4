-- `text::is_fit_block` meets its contract. The loop's invariant: where none was found that does not fit, all from i up to j do.
-- Assumes nothing.
use Rattle.std.proofs.Common.{◌≡◌, true}
use Rattle.text.specs.Beside.{AllFit}
use Rattle.text.proofs.beside.is_fit_block.Given as goal

abbrev pub invariant-loop-j : goal.invariant-loop-j
invariant-loop-j l = l.fit ≡ true → AllFit l.s l.i l.j
