-- `text::is_scalar` meets its contract: a code is a `char` exactly if it is a scalar value.
-- Assumes nothing.
use Prim.Native.Nat.{ℕ}
use mathlib.Core.Path.{◌≡◌, ◌∙◌}
use native.Mathlib.Omega.{arith}
use Rattle.std.proofs.lemmas.Bool.Decides.{nat_tests}
use Rattle.std.specs.Prelude.{None, Some, is_some, MatchOption}
use Rattle.std.specs.Prelude as code
use Rattle.std.specs.Char.{InScalarRange, OutOfScalarRange}
use Rattle.text.specs.Chars.{is_scalar}
use Rattle.text.proofs.classes.is_scalar.Goals as goal

by_char : (c : ℕ) (r : code.Option ℕ) → MatchOption r (OutOfScalarRange c) (λ _. InScalarRange c) → is_some r ≡ is_scalar c
unfolding is_scalar
by_char c None h = grind (arith, nat_tests)
by_char c (Some x) h = grind (arith, nat_tests)

pub returns : goal.returns
returns c = c.is_some.ensures ∙ by_char c.args.c c.from_u32.result c.from_u32.ensures.cases
