-- `first_tick`: where the search has come to it finds what it finds from the start.
-- Assumes nothing.
use mathlib.Core.Path.{◌≡◌}
use Rattle.spans.specs.State.{next_at}
use Rattle.spans.proofs.first_tick.Given as goal

abbrev pub invariant-loop-k : goal.invariant-loop-k
invariant-loop-k l = next_at 96 l.s l.i ≡ next_at 96 l.s l.k
