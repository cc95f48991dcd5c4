-- What the code answers, and the parts of `Unescape` that it computes.
-- Assumes nothing.
use Rattle.std.specs.Prelude.{ℕ, None, Some}
use Rattle.std.specs.Prelude as code
use Rattle.std.proofs.Math.Option.{Option, none, some}
use Rattle.reference.specs.declared.Replacement.{Replacement}

abbrev pub answer : Option (ℕ × ℕ) → code.Option Replacement
answer none = None
answer (some r) = Some (record { code = r.0; len = r.1 })

abbrev pub value : Option ℕ → code.Option ℕ
value none = None
value (some c) = Some c
