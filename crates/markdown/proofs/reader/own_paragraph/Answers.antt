-- `markdown::own_paragraph` meets its contract.
-- Assumes nothing.
use Rattle.markdown.proofs.ParagraphLaws.{owned_there, owned_copied}
use Rattle.markdown.proofs.reader.own_paragraph.Goals as goal

pub returns-then-s : goal.returns-then-s
returns-then-s c = owned_there _ _ _ c.requires c.if-s.true

pub returns : goal.returns
returns c = owned_copied _ _ _ _ c.requires c.if-s.false (rw c.if-s.false at c.put_text.ensures)
