-- The loop of `run`: what is left of the text makes the same state, and the output does not end a line.
-- Assumes nothing.
use mathlib.Core.Path.{◌≡◌}
use mathlib.Core.Bool.{Bool}
use mathlib.Core.List.{List}
use Prim.Native.Nat.{ℕ, ◌-◌, ◌≤◌}
use lib.ListN.{length}
use Rattle.html.specs.State.{State}
use Rattle.html.specs.Pen.{Behind, Inking}
use Rattle.html.specs.declared.words.Pen.{Pen}
use Rattle.html.proofs.words.run.Given as goal

-- from i on the text makes what it made from `from` on
abbrev pub Running : List ℕ → Bool → ℕ → List ℕ → Pen → List ℕ → Pen → ℕ → Type 0
Running raw pre from out₀ p₀ out p i =
    ((s t : State) (m : ℕ) → s.pre ≡ pre → Inking raw s t m out₀ p₀ from → Inking raw s t m out p i)
    × (Behind pre p out × ((length out ≡ length out₀) × (from ≤ i)))

abbrev pub invariant-loop-i : goal.invariant-loop-i
invariant-loop-i l = Running l.raw l.pre l.from l.initial.out l.initial.p l.out l.p l.i

abbrev pub decreases-loop-i : goal.decreases-loop-i
decreases-loop-i l = length l.raw - l.i
