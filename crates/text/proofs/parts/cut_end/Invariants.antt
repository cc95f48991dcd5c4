-- `text::cut_end` meets its contract. The loop's invariant: no character that starts less than k bytes before n goes on past it.
-- Assumes nothing.
use Rattle.std.proofs.Common.{ℕ, ◌≤◌, ◌<◌, ◌≡◌, false}
use Rattle.text.specs.Cut.{splits}
use Rattle.text.proofs.parts.cut_end.Given as goal

abbrev pub invariant-loop-k : goal.invariant-loop-k
invariant-loop-k l = (m : ℕ) → 1 ≤ m → m < l.k → splits l.s l.n m ≡ false
