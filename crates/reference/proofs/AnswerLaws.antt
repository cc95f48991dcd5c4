-- What the code's answers say of the definitions.
-- Assumes nothing.
use Prim.Native.Nat.{ℕ}
use mathlib.Core.Option.{Option, none, some}
use mathlib.Core.Path.{◌≡◌, refl, ap, ◌∙◌}
use Rattle.reference.specs.Answers.{value}
use Rattle.std.specs.Prelude.{None, Some}
use native.Mathlib.Omega.{arith}
use Rattle.text.specs.Find.{found}
use Rattle.text.proofs.FindLaws.{found_some}

pub value_some : (o : Option ℕ) (c : ℕ) → value o ≡ Some c → o ≡ some c
value_some none c e = cc
value_some (some d) c e = cc

pub value_none : (o : Option ℕ) → value o ≡ None → o ≡ none
value_none none e = refl
value_none (some d) e = cc

-- where the search started at offset 0
pub found_first : (o : Option ℕ) (n : ℕ) → found 0 o ≡ Some n → o ≡ some n
found_first o n e = let r = found_some 0 o n e in r.1 ∙ ap some (omega (arith, r.2))
