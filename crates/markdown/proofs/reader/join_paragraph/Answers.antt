-- `markdown::join_paragraph` meets its contract.
-- Assumes nothing.
use Rattle.markdown.proofs.ParagraphLaws.{join_text}
use Rattle.markdown.proofs.reader.join_paragraph.Goals as goal

pub returns : goal.returns
returns c =
    let p = c.requires in
    let k = c.len.ensures in
    rw (c.copied.ensures, c.len-2.ensures, k)
    (join_text _ _ c.args.s c.args.text.copied _ _ p.0 p.1.0 p.1.1 _ _ _ c.own_paragraph.ensures (rw k at c.put.ensures) (rw k at c.put_text.ensures))
