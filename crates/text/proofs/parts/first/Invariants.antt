-- `text::first` meets its contract. The loop's invariant: byte i is where character k stands.
-- Assumes nothing.
use Prim.Native.Nat.{◌≤◌, ◌-◌}
use Rattle.text.proofs.Laws.{Pos}
use Rattle.text.proofs.parts.first.Given as goal

abbrev pub invariant-loop-k : goal.invariant-loop-k
invariant-loop-k l = Pos l.s l.i l.k × (l.k ≤ l.n)

abbrev pub decreases-loop-k : goal.decreases-loop-k
decreases-loop-k l = l.n - l.k
