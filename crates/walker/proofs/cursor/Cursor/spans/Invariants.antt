-- `Cursor::spans`: the spans that are left end where all of them end.
-- Assumes nothing.
use Prim.Native.Nat.{◌-◌}
use mathlib.Core.Path.{◌≡◌}
use Rattle.records.specs.Decode.{spans_at}
use Rattle.walker.specs.Readers.{left, rest, Moved}
use Rattle.walker.proofs.cursor.Cursor.spans.Given as goal

abbrev pub invariant-loop-i : goal.invariant-loop-i
invariant-loop-i l = Moved l.initial.self.bytes l.self × (rest (spans_at (l.n - l._i) (left l.self)) ≡ rest (spans_at l.n (left l.initial.self)))
