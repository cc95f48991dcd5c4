-- `markdown::reader::item_line` meets its contract.
-- Assumes nothing.
use Rattle.markdown.proofs.LineSteps.{item_line}
use Rattle.markdown.proofs.reader.item_line.Goals as goal

pub returns : goal.returns
returns c =
    let e = rw (c.of.ensures.bytes, c.of-2.ensures.bytes) at c.put_item.ensures in
    item_line _ _ c.requires.1.0 c.requires.1.1 _ _ _ _ _ _ _ _ c.flush-p.ensures e.0 e.1
