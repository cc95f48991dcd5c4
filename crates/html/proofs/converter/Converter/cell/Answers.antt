-- `Converter::cell` meets its contract.
-- Assumes nothing.
use Rattle.html.specs.Struct.{ended}
use Rattle.html.specs.State.{tag}
use Rattle.html.proofs.converter.Converter.cell.Goals as goal

pub returns-then-closing : goal.returns-then-closing
unfolding tag ended
returns-then-closing c = rw c.if-closing.true c.ended.ensures

pub returns : goal.returns
unfolding tag
returns c = rw c.if-closing.false
