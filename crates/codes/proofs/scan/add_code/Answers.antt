-- `codes::scan::add_code`: each turn sets the bit of one byte.
-- Assumes nothing.
use Prim.Native.Nat.{◌<◌}
use native.Mathlib.Omega.{arith}
use lib.ListN.{get_or}
use Rattle.codes.proofs.MaskLaws.{added_none, added_next, added_all}
use Rattle.codes.proofs.scan.add_code.Goals as goal

pub loop-j-init : goal.loop-j-init
loop-j-init c = added_none c.args.masks.now c.args.i c.args.code.now

pub loop-j-preserved : goal.loop-j-preserved
loop-j-preserved c =
    let byte : get_or c.args.code.now c.loop-j.j 0 < 256 = omega (arith, c.type_inv.code c.loop-j.j) in
    rw c.from.ensures (added_next c.loop-j.invariant c.requires.0 (omega arith) c.told-masks byte)

pub returns-clause-added : goal.returns-clause-added
returns-clause-added c = added_all c.loop-j.invariant (omega arith)
