-- `Converter::step` meets its contract.
-- Assumes nothing.
use Rattle.html.specs.State.{tag}
use Rattle.html.proofs.converter.Converter.step.Goals as goal

pub returns-in-Block : goal.returns-in-Block
unfolding tag
returns-in-Block c = rw c.in-Block.is c.block.ensures

pub returns-in-Strong : goal.returns-in-Strong
unfolding tag
returns-in-Strong c = rw c.in-Strong.is c.marks.ensures

pub returns-in-Emphasis : goal.returns-in-Emphasis
unfolding tag
returns-in-Emphasis c = rw c.in-Emphasis.is c.marks-in-Emphasis.ensures

pub returns-in-Other : goal.returns-in-Other
unfolding tag
returns-in-Other c = rw c.in-Other.is
