-- The loop of `convert`: from each turn on, the rest of the page makes what all of it makes.
-- Assumes nothing.
use mathlib.Core.Path.{◌≡◌}
use lib.ListN.{length}
use Rattle.html.proofs.LoopLaws.{Going}
use Rattle.html.proofs.page.convert.Given as goal

abbrev pub invariant-loop-rest : goal.invariant-loop-rest
invariant-loop-rest l = Going l.html l.out l.state l.rest × (length l.out ≡ length l.initial.out)

abbrev pub decreases-loop-rest : goal.decreases-loop-rest
decreases-loop-rest l = length l.rest
