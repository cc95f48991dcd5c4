-- `codes::are_codes`: each turn leaves the lengths behind it to be tested and added.
-- Assumes nothing.
use Rattle.codes.proofs.LengthLaws.{Tested}
use Rattle.codes.proofs.are_codes.Given as goal

abbrev pub invariant-loop-n : goal.invariant-loop-n
invariant-loop-n l = Tested l.lengths l.sum l.n-index
