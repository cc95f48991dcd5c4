-- `Converter::ended` meets its contract.
-- Assumes nothing.
use mathlib.Core.Path.{ap}
use Prim.Native.Nat.{ℕ}
use mathlib.Core.List.{List}
use mathlib.Core.Bool.{false}
use Rattle.html.specs.State.{with_out}
use Rattle.html.specs.Struct.{state_of, ended}
use Rattle.html.proofs.converter.Converter.ended.Goals as goal

pub returns : goal.returns
unfolding ended state_of
returns c =
    let a = c.args in
    ap (λ (o : List ℕ). with_out o false (state_of a.self a.out.now)) c.push_all.ensures
