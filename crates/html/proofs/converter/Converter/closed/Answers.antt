-- `Converter::closed` meets its contract.
-- Assumes nothing.
use mathlib.Core.Path.{ap, ◌∙◌}
use Prim.Native.Nat.{ℕ}
use Rattle.html.specs.Struct.{state_of, upto}
use Rattle.html.proofs.StepLaws.{upto_tail}
use mathlib.Core.List.{List}
use Rattle.html.specs.State.{with_lists}
use Rattle.html.proofs.converter.Converter.closed.Goals as goal

pub returns : goal.returns
unfolding state_of
returns c =
    let a = c.args.self in
    λ w. ap (λ (x : List ℕ). with_lists x (state_of a w)) (ap (λ (n : ℕ). upto n a.lists) c.saturating_sub.ensures ∙ upto_tail a.depth a.lists)
