-- `plain_end` meets its contract: what was passed is text.
-- Assumes nothing.
use Rattle.spans.specs.State.{PlainTo}
use Rattle.spans.proofs.plain_end.Given as goal

abbrev pub invariant-loop-j : goal.invariant-loop-j
invariant-loop-j l = PlainTo l.line l.i l.j

abbrev pub invariant-loop-j-2 : goal.invariant-loop-j-2
invariant-loop-j-2 l = PlainTo l.line l.i l.j
