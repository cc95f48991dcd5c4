-- The loop of `ink`: what is left of the text makes the same state.
-- Assumes nothing.
use mathlib.Core.Path.{◌≡◌}
use Prim.Native.Nat.{◌+◌, ◌-◌, ◌*◌}
use lib.ListN.{length}
use Rattle.text.specs.Utf8.{chars}
use Rattle.reference.specs.Unescape.{unescape}
use Rattle.html.specs.State.{State, put_all}
use Rattle.html.specs.Pen.{pen_state, Inking}
use Rattle.html.proofs.words.ink.Given as goal

abbrev pub invariant-loop-i : goal.invariant-loop-i
invariant-loop-i l =
    let p₀ = l.initial.p in
    let all = unescape 0 (chars l.raw) in
    let most = p₀.len + 1 + 2 * length l.raw in
    ((s : State) → s.pre ≡ l.pre → Inking l.raw s (put_all p₀.first all (pen_state s p₀ l.initial.out)) most l.out l.p l.i)
    × (length l.out ≡ length l.initial.out)

abbrev pub decreases-loop-i : goal.decreases-loop-i
decreases-loop-i l = length l.raw - l.i
