-- `Converter::changed` meets its contract.
-- Assumes nothing.
use mathlib.Core.Path.{ap, ◌∙◌}
use native.Mathlib.Omega.{arith}
use Rattle.html.specs.Struct.{state_of, lists_of}
use Rattle.html.proofs.GrowLaws.{grown, grow_newline}
use Rattle.html.proofs.StepLaws.{changed_none, changed_some, none_of, some_of}
use Rattle.html.specs.State.{newline, block}
use Rattle.html.proofs.converter.Converter.changed.Goals as goal

pub block-requires : goal.block-requires
block-requires c =
    let t = grown newline 1 grow_newline _ _ _ _ c.newline-self.ensures in
    omega arith

pub returns-then-d-eq0 : goal.returns-then-d-eq0
unfolding state_of
returns-then-d-eq0 c =
    let a = c.args in
    c.block.ensures
    ∙ ap block c.newline-self.ensures
    ∙ changed_none (lists_of a.self) (state_of a.self a.out.now) (none_of a.self c.if-d-eq0.true)

pub returns : goal.returns
unfolding state_of
returns c =
    let a = c.args in
    c.newline-self.ensures
    ∙ changed_some (lists_of a.self) (state_of a.self a.out.now) (some_of a.self c.if-d-eq0.false)
