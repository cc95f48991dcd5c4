-- The number that `number` makes of its bytes.
-- Assumes nothing.
use native.Mathlib.Omega.{arith}
use mathlib.Core.Path.{refl}
use Rattle.walker.proofs.Integers.{integer_at}
use Rattle.walker.proofs.cursor.Cursor.number.Goals as goal

pub returns : goal.returns
returns g c =
    let s = c.args.self.now.bytes.now in
    let (e, l) = integer_at s c.args.self.now.at g.row.N c.requires (omega arith) (omega arith) c.copy_from_slice.ensures.after c.from_le_bytes.ensures in
    (e, (refl, l), tt)
