-- `markdown::item_map` meets its contract.
-- Assumes nothing.
use Rattle.markdown.proofs.StoreLaws.{bits_top, bits_deep}
use Rattle.markdown.proofs.writer.item_map.Goals as goal

pub returns-then-depth-eq0 : goal.returns-then-depth-eq0
returns-then-depth-eq0 c = bits_top _ c.if-depth-eq0.true

pub returns : goal.returns
returns c = bits_deep _ c.if-depth-eq0.false
