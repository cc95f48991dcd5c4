-- `Converter::list_item` meets its contract.
-- Assumes nothing.
use mathlib.Core.Path.{◌∙◌}
use native.Mathlib.Omega.{arith}
use Rattle.html.specs.State.{tag, newline}
use Rattle.html.proofs.GrowLaws.{grown, grow_newline}
use Rattle.html.proofs.StepLaws.{newline_same, item_tag}
use Rattle.html.proofs.converter.Converter.list_item.Goals as goal

pub returns-then-closing : goal.returns-then-closing
unfolding tag
returns-then-closing c = rw c.if-closing.true

pub item-requires : goal.item-requires
item-requires c =
    let a = c.args in
    let n = c.newline-self in
    let g = grown newline 1 grow_newline _ _ _ _ n.ensures in
    let l = newline_same a.self n.result _ _ n.ensures in
    record { len_in_bounds = omega (arith, c.requires.len); number_bound = rw l c.requires.number }

pub returns : goal.returns
returns c =
    let a = c.args in
    let n = c.newline-self in
    rw c.if-closing.false (c.item.ensures ∙ item_tag a.self n.result _ _ n.ensures)
