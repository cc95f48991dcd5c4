-- `Converter::marks` meets its contract.
-- Assumes nothing.
use mathlib.Core.Path.{ap, ◌∙◌}
use native.Mathlib.Omega.{arith}
use Prim.Native.Nat.{ℕ}
use mathlib.Core.List.{List}
use mathlib.Core.Bool.{false}
use Rattle.html.specs.State.{push_str, with_out}
use Rattle.html.specs.Struct.{state_of}
use Rattle.html.specs.State.{marks}
use Rattle.html.proofs.StepLaws.{spaced_state, spaced_len}
use Rattle.html.proofs.TextLaws.{pending_most}
use Rattle.html.proofs.converter.Converter.marks.Goals as goal

pub returns-then-closing : goal.returns-then-closing
unfolding marks state_of
returns-then-closing c =
    let a = c.args in
    rw c.if-closing.true (ap (λ (o : List ℕ). with_out o a.self.space (state_of a.self a.out.now)) c.push_all.ensures)

pub push_all-requires-2 : goal.push_all-requires-2
push_all-requires-2 c =
    let a = c.args in
    let k = spaced_len c.spaced-n.result a.self.len a.out.now _ a.self.space c.spaced-n.ensures in
    let m = pending_most a.self.space in
    (omega arith, c.requires.1)

pub returns : goal.returns
unfolding marks state_of
returns c =
    let a = c.args in
    rw c.if-closing.false (ap (λ (o : List ℕ). with_out o false (state_of a.self a.out.now)) c.push_all-2.ensures
    ∙ ap (push_str a.mark.now) (spaced_state a.self c.spaced-n.result a.out.now _ c.spaced-n.ensures))
