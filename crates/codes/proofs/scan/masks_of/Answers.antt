-- `codes::scan::masks_of`: each turn sets the bits of the code that stands next.
-- Assumes nothing.
use Prim.Native.Nat.{◌+◌, ◌-◌, ◌≤◌}
use native.Mathlib.Omega.{arith}
use mathlib.Core.Path.{◌≡◌, ap}
use lib.ListN.{take, drop, get_or, length-take}
use Rattle.codes.proofs.LengthLaws.{known, its_length}
use Rattle.codes.proofs.MaskLaws.{filled_none, filled_next, filled_all}
use Rattle.codes.proofs.scan.masks_of.Goals as goal

pub loop-i-init : goal.loop-i-init
loop-i-init c = filled_none (known c.args.codes.now c.args.lengths.now c.requires) c.no_masks-masks.ensures

pub add_code-requires : goal.add_code-requires
add_code-requires c =
    let w = known c.args.codes.now c.args.lengths.now c.requires in
    let n = get_or c.args.lengths.now c.loop-i.i 0 in
    let most : n ≤ 32 = (its_length c.args.lengths.now w.good c.loop-i.i c.loop-i-test.true).1 in
    (omega (arith, w.few), omega (arith, length-take (c.loop-i.from + n - c.loop-i.from) (drop c.loop-i.from c.args.codes.now)))

pub loop-i-preserved : goal.loop-i-preserved
loop-i-preserved c =
    let w = known c.args.codes.now c.args.lengths.now c.requires in
    let n = get_or c.args.lengths.now c.loop-i.i 0 in
    let e : c.loop-i.from + n - c.loop-i.from ≡ n = omega arith in
    filled_next c.loop-i.invariant w c.loop-i-test.true (ap (λ k. take k (drop c.loop-i.from c.args.codes.now)) e) c.add_code.ensures.others c.add_code.ensures.added

pub returns : goal.returns
returns c = filled_all c.loop-i.invariant c.loop-i-test.false
