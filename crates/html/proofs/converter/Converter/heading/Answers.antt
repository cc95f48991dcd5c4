-- `Converter::heading` meets its contract.
-- Assumes nothing.
use mathlib.Core.Path.{ap, ◌∙◌}
use native.Mathlib.Omega.{arith}
use Prim.Native.Nat.{ℕ}
use mathlib.Core.List.{◌++◌}
use Rattle.text.specs.Words.{repeat, str}
use Rattle.html.specs.State.{tag, push_str, block}
use Rattle.html.specs.Struct.{state_of}
use Rattle.html.proofs.GrowLaws.{grown, grow_block, times_len}
use Rattle.html.proofs.StepLaws.{heading_written}
use Rattle.html.proofs.converter.Converter.heading.Goals as goal

pub returns-then-closing : goal.returns-then-closing
unfolding tag
returns-then-closing c = rw c.if-closing.true c.block-self.ensures

pub push_times-n-requires : goal.push_times-n-requires
push_times-n-requires c =
    let b = grown block 2 grow_block _ _ _ _ c.block-self.ensures in
    (omega (arith, c.min.ensures), omega arith)

pub push-requires : goal.push-requires
push-requires c =
    let b = grown block 2 grow_block _ _ _ _ c.block-self.ensures in
    let t = times_len _ _ c.min.result 35 _ _ (omega arith) c.push_times-n.ensures in
    (omega (arith, c.min.ensures), omega arith)

pub returns : goal.returns
unfolding tag state_of
returns c =
    let a = c.args in
    let k = c.min in
    let s = state_of a.self a.out.now in
    rw c.if-closing.false (heading_written c.block-self.result _ _ _ k.result _ _ s c.block-self.ensures c.push_times-n.ensures c.push.ensures
    ∙ ap (λ (n : ℕ). push_str (repeat n "#" ++ str " ") (block s)) k.ensures)
