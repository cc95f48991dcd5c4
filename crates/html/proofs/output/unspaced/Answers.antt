-- `unspaced` meets its contract. The spaces passed are those that go.
-- Assumes nothing.
use mathlib.Core.Path.{◌≡◌, sym, ap, ◌∙◌}
use Prim.Native.Nat.{◌-◌}
use lib.ListN.{length, get_or}
use lib.Seq.{length-take-le}
use native.Mathlib.Omega.{arith}
use borrow.Author.Rules.{rules}
use Rattle.html.specs.Struct.{last_first}
use Rattle.html.proofs.OutLaws.{shorter, spaces_on, spaces_off, spaces_none}
use Rattle.html.proofs.output.unspaced.Goals as goal

pub loop-rest-preserved : goal.loop-rest-preserved
loop-rest-preserved c =
    let r = c.loop-rest.rest.now in
    let e : get_or r (length r - 1) 0 ≡ 32 = search rules in
    let v = c.loop-rest.invariant in
    let k = length-take-le (length r - 1) r (omega arith) in
    (omega arith, shorter c.args.written.now r v.1, spaces_on r _ c.in-32.len_at_least e v.2)

pub returns-in_default-clause-bytes : goal.returns-in_default-clause-bytes
returns-in_default-clause-bytes c =
    let v = c.loop-rest.invariant in
    ap last_first (sym v.1) ∙ spaces_none c.loop-rest.rest.now _ c.in_default.len_below v.2

pub returns-in_default-2-clause-bytes : goal.returns-in_default-2-clause-bytes
returns-in_default-2-clause-bytes c =
    let v = c.loop-rest.invariant in
    let r = c.loop-rest.rest.now in
    let n : get_or r (length r - 1) 0 ≡ 32 → ⊥ = search rules in
    ap last_first (sym v.1) ∙ spaces_off r _ c.in_default.len_at_least n v.2
