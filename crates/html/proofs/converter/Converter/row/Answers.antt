-- `Converter::row` meets its contract.
-- Assumes nothing.
use Rattle.html.specs.State.{tag}
use Rattle.html.proofs.converter.Converter.row.Goals as goal

pub returns-then-closing : goal.returns-then-closing
unfolding tag
returns-then-closing c = rw c.if-closing.true c.newline.ensures

pub returns : goal.returns
unfolding tag
returns c = rw c.if-closing.false
