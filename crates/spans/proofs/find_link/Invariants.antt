-- `find_link`: two searches that start after what is known of the line, and a test between them. The outer loop (`link`) and the one for `(` (`paren`) make one turn.
-- Assumes nothing.
use Prim.Native.Nat.{◌-◌}
use lib.ListN.{length}
use Rattle.spans.specs.State.{Clear, Known}
use Rattle.spans.proofs.find_link.Given as goal

abbrev pub invariant-close : goal.invariant-close
invariant-close l = Clear 93 l.s l.from l.i × Known l.s l.from l.seen

abbrev pub decreases-close : goal.decreases-close
decreases-close l = length l.s - l.i

abbrev pub invariant-paren : goal.invariant-paren
invariant-paren l = Unit

abbrev pub decreases-paren : goal.decreases-paren
decreases-paren l = 0

abbrev pub invariant-end : goal.invariant-end
invariant-end l = Clear 41 l.s l.target l.j × Known l.s l.from l.seen

abbrev pub decreases-end : goal.decreases-end
decreases-end l = length l.s - l.j

abbrev pub invariant-link : goal.invariant-link
invariant-link l = Known l.s l.from l.seen

abbrev pub decreases-link : goal.decreases-link
decreases-link l = 0
