-- `Converter::opened` meets its contract.
-- Assumes nothing.
use mathlib.Core.Path.{ap}
use native.Mathlib.Omega.{arith}
use Prim.Native.Nat.{ℕ}
use mathlib.Core.List.{List}
use Rattle.html.specs.State.{with_lists}
use Rattle.html.specs.Struct.{state_of}
use Rattle.html.proofs.StepLaws.{upto_push}
use Rattle.html.proofs.converter.Converter.opened.Goals as goal

pub returns : goal.returns
unfolding state_of
returns c =
    let a = c.args.self in
    λ w. ap (λ (x : List ℕ). with_lists x (state_of a w)) (upto_push a.depth a.lists _ (omega arith))
