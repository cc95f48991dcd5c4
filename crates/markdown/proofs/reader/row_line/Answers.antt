-- `markdown::reader::row_line` meets its contract.
-- Assumes nothing.
use Rattle.markdown.proofs.LineSteps.{row_text}
use Rattle.markdown.proofs.reader.row_line.Goals as goal

pub returns : goal.returns
returns c =
    let e = rw c.of.ensures.bytes at c.put_paragraph.ensures in
    row_text _ _ _ _ _ _ c.args.s _ _ c.args.text.copied _ _ _ c.requires.0 c.make_row-row.ensures c.make_row-row.auto.work c.flush-p.ensures e.0 e.1
