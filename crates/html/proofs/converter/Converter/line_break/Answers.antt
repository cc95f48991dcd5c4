-- `Converter::line_break` meets its contract.
-- Assumes nothing.
use Rattle.html.specs.Struct.{ended}
use Rattle.html.specs.State.{tag}
use Rattle.html.proofs.converter.Converter.line_break.Goals as goal

pub returns-then-closing : goal.returns-then-closing
unfolding tag
returns-then-closing c = rw c.if-closing.true

pub returns : goal.returns
unfolding tag ended
returns c = rw c.if-closing.false c.ended.ensures
