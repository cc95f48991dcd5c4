-- `Converter::list` meets its contract.
-- Assumes nothing.
use mathlib.Core.Path.{refl, ap, ◌∙◌}
use mathlib.Core.List.{◌∷◌}
use Rattle.html.specs.State.{with_lists}
use native.Mathlib.Omega.{arith}
use Prim.Native.Nat.{ℕ, ◌<◌}
use Rattle.html.specs.Struct.{state_of, lists_of, first_number}
use Rattle.html.proofs.GrowLaws.{len_of}
use Rattle.html.proofs.StepLaws.{list_closes, list_full, list_opens, depth_is}
use Rattle.html.proofs.converter.Converter.list.Goals as goal

pub changed-requires : goal.changed-requires
changed-requires c =
    let a = c.args in
    let w = a.out.now in
    omega (arith, len_of _ w _ (c.closed-self.ensures w), len_of a.self w _ refl)

pub returns-then-closing : goal.returns-then-closing
returns-then-closing c =
    let a = c.args in
    let w = a.out.now in
    rw c.if-closing.true (list_closes (first_number a.kind) a.self c.closed-self.result _ w _ (c.closed-self.ensures w) c.changed.ensures)

pub returns-then-self-eq-MAX_LISTS : goal.returns-then-self-eq-MAX_LISTS
returns-then-self-eq-MAX_LISTS c =
    let a = c.args in
    let w = a.out.now in
    rw c.if-closing.false (list_full (first_number a.kind) (state_of a.self w) (omega (arith, depth_is a.self w _ refl, c.if-self-eq-MAX_LISTS.true)))

pub changed-requires-2 : goal.changed-requires-2
changed-requires-2 c =
    let a = c.args in
    let w = a.out.now in
    omega (arith, len_of _ w _ (c.opened-self.ensures w), len_of a.self w _ refl)

pub returns : goal.returns
returns c =
    let a = c.args in
    let w = a.out.now in
    let room : a.self.depth < 64 = omega (arith, c.if-self-eq-MAX_LISTS.false) in
    let opened = c.opened-self.ensures w ∙ ap (λ (n : ℕ). with_lists (n ∷ lists_of a.self) (state_of a.self w)) c.first.ensures in
    let made = list_opens (first_number a.kind) a.self c.opened-self.result _ w _ room opened c.changed-2.ensures in
    rw c.if-closing.false made
