-- The loop of `key`: what is read so far and what is left of the name give its number.
-- Assumes nothing.
use Rattle.html.proofs.NameLaws.{Keyed}
use Rattle.html.proofs.names.key.Given as goal

abbrev pub invariant-loop-i : goal.invariant-loop-i
invariant-loop-i l = Keyed l.s l.k l.i
