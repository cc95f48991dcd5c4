-- `markdown::lines::text_of` meets its contract.
-- Assumes nothing.
use Rattle.markdown.specs.Parts.{text_of}
use Rattle.markdown.proofs.lines.text_of.Goals as goal

pub returns-then-text : goal.returns-then-text
unfolding text_of
returns-then-text c = rw c.if-text.true

pub returns : goal.returns
unfolding text_of
returns c = rw c.if-text.false
