-- `markdown::next_span` meets its contract.
-- Assumes nothing.
use borrow.Author.Tests.{eq-eqb, ne_eqb}
use Rattle.markdown.proofs.writer.next_span.Goals as goal

pub returns-then-item-eq0 : goal.returns-then-item-eq0
returns-then-item-eq0 c = rw (eq-eqb _ _ c.if-item-eq0.true)

pub returns : goal.returns
returns c = rw (ne_eqb _ _ c.if-item-eq0.false)
