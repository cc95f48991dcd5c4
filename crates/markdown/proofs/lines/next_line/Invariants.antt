-- `markdown::lines::next_line` meets its contract.
-- Assumes nothing.
use Rattle.markdown.proofs.Reading.{Passing}
use mathlib.Core.Path.{◌≡◌}
use Rattle.markdown.proofs.lines.next_line.Given as goal

abbrev pub invariant-loop-j : goal.invariant-loop-j
invariant-loop-j l = Passing l.markdown l.i l.j × (l.work ≡ l.initial.work)
