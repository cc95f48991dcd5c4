-- `writer::put_number`: the bytes of the number, of which the first ones are stored.
-- Assumes nothing.
use Prim.Native.Nat.{ℕ}
use mathlib.Core.Path.{ap, ◌∙◌}
use Rattle.std.specs.Prelude.{min}
use Rattle.std.specs.Int.{bytes_low_first}
use Rattle.std.proofs.Math.Nat.{min-le_right}
use lib.ListN.{take}
use lib.Seq.{sets}
use Rattle.records.proofs.Stores.{bytes_front}
use Rattle.records.proofs.writer.put_number.Goals as goal

pub returns : goal.returns
returns g c =
    let a = c.args in
    let bytes = bytes_low_first 0 8 a.n in
    let front = bytes_front 0 (min g.row.N 8) 8 a.n (min-le_right g.row.N 8) in
    c.put_bytes.ensures
    ∙ ap (sets a.out.now a.at) (ap (take c.min.result) c.to_le_bytes-bytes.ensures ∙ ap (λ (k : ℕ). take k bytes) c.min.ensures ∙ front)
