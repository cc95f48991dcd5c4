-- `Pen::bare` meets its contract.
-- Assumes nothing.
use mathlib.Core.Path.{refl, ap, ◌∙◌}
use native.Mathlib.Omega.{arith}
use Prim.Native.Nat.{ℕ}
use mathlib.Core.List.{List, ◌∷◌}
use mathlib.Core.Bool.{false}
use Rattle.html.specs.State.{with_out}
use Rattle.html.specs.Pen.{pen_state}
use Rattle.html.proofs.StepLaws.{spaced_len}
use Rattle.html.proofs.TextLaws.{pending_most}
use Rattle.html.proofs.words.Pen.bare.Goals as goal

pub push-requires : goal.push-requires
push-requires c =
    let k = spaced_len c.spaced-n.result c.args.self.len c.args.out.now _ c.args.self.space c.spaced-n.ensures in
    let m = pending_most c.args.self.space in
    (omega arith, c.requires.1)

pub returns : goal.returns
unfolding pen_state
returns c =
    rw c.behind.ensures (λ s. ap (λ (x : List ℕ). with_out x false s) (c.push.ensures ∙ ap (λ (x : List ℕ). c.args.b ∷ x) c.spaced-n.ensures), refl)
