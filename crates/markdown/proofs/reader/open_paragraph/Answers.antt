-- `markdown::open_paragraph` meets its contract.
-- Assumes nothing.
use Rattle.markdown.proofs.ParagraphLaws.{open_copied}
use Rattle.markdown.proofs.reader.open_paragraph.Goals as goal

pub returns-then-text : goal.returns-then-text
returns-then-text c = rw (c.copied.ensures, c.len.ensures) (open_copied _ _ c.args.s c.args.text.copied _ _ c.requires _ c.if-text.true (rw c.if-text.true at c.put_text.ensures))
