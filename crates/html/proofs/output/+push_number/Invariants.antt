-- The measure of `push_number`, which calls itself with the tenth part of its number.
-- Assumes nothing.
use Rattle.html.proofs.output.+push_number.Given as goal

abbrev pub decreases-push_number : goal.decreases-push_number
decreases-push_number l = l.number
