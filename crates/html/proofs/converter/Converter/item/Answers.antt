-- `Converter::item` meets its contract.
-- Assumes nothing.
use mathlib.Core.Path.{refl, ap, ◌∙◌}
use native.Mathlib.Omega.{arith}
use Prim.Native.Nat.{ℕ, ◌-◌, ◌*◌, ◌^◌, ◌<◌}
use mathlib.Core.List.{List}
use lib.ListN.{get_or}
use Rattle.html.specs.State.{with_out}
use Rattle.html.specs.Struct.{state_of, lists_of, upto}
use Rattle.text.specs.Decimal.{decimal}
use Rattle.html.proofs.GrowLaws.{all_len, times_len, decimal_ascii}
use Rattle.html.proofs.NumberLaws.{decimal_few}
use Rattle.html.proofs.StepLaws.{number_is, item_none, item_bullets, item_numbers}
use borrow.Author.Rules.{rules}
use Rattle.html.proofs.converter.Converter.item.Goals as goal

pub returns-then-d-eq0 : goal.returns-then-d-eq0
unfolding state_of
returns-then-d-eq0 c =
    let a = c.args in
    let s = state_of a.self a.out.now in
    ap (λ (o : List ℕ). with_out o a.self.space s) c.push_all.ensures
    ∙ item_none (lists_of a.self) _ (ap (λ (n : ℕ). upto n a.self.lists) c.if-d-eq0.true)

pub push_all-requires-then-n-eq0 : goal.push_all-requires-then-n-eq0
push_all-requires-then-n-eq0 c =
    let a = c.args in
    let t = times_len _ _ (2 * (a.self.depth - 1)) 32 _ _ (omega arith) c.push_times-indented.ensures in
    (omega arith, search rules)

pub returns-then-n-eq0 : goal.returns-then-n-eq0
unfolding state_of
returns-then-n-eq0 c =
    let a = c.args in
    item_bullets a.self a.out.now _ _ _ (omega arith) refl c.push_times-indented.ensures _ _ c.if-n-eq0.true c.push_all-then-n-eq0.ensures

pub push_number-numbered-requires : goal.push_number-numbered-requires
push_number-numbered-requires c =
    let a = c.args in
    let t = times_len _ _ (2 * (a.self.depth - 1)) 32 _ _ (omega arith) c.push_times-indented.ensures in
    let n = get_or a.self.lists (a.self.depth - 1) 0 in
    let q : n < 2 ^ 64 = omega (arith, number_is a.self.depth a.self.lists (omega arith)) in
    omega (arith, decimal_few n q)

pub push_all-requires-2 : goal.push_all-requires-2
push_all-requires-2 c =
    let a = c.args in
    let t = times_len _ _ (2 * (a.self.depth - 1)) 32 _ _ (omega arith) c.push_times-indented.ensures in
    let n = get_or a.self.lists (a.self.depth - 1) 0 in
    let q : n < 2 ^ 64 = omega (arith, number_is a.self.depth a.self.lists (omega arith)) in
    let d = all_len _ _ (decimal n) _ _ (decimal_ascii n) c.push_number-numbered.ensures in
    (omega (arith, decimal_few n q), search rules)

pub overflow_add-self : goal.overflow_add-self
overflow_add-self c =
    let a = c.args in
    omega (arith, number_is a.self.depth a.self.lists (omega arith))

pub returns : goal.returns
unfolding state_of
returns c =
    let a = c.args in
    let numbers = item_numbers a.self a.out.now _ _ _ (omega arith) refl c.push_times-indented.ensures in
    numbers _ _ _ _ c.if-n-eq0.false (omega arith) c.push_number-numbered.ensures c.push_all-2.ensures
