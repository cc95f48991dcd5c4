-- `markdown::put_spans` meets its contract.
-- Assumes nothing.
use Rattle.markdown.proofs.StoreLaws.{put_none, put_some}
use Rattle.markdown.proofs.writer.put_spans.Goals as goal

pub returns-then-w-eq0 : goal.returns-then-w-eq0
returns-then-w-eq0 c =
    let p = c.requires in
    let e = c.spans-w.ensures in
    put_none _ _ _ _ _ _ _ p.1.0 p.1.1.0 e.0 e.1.0 e.1.1 _ c.if-w-eq0.true c.put.ensures

pub returns : goal.returns
returns c =
    let p = c.requires in
    let e = c.spans-w.ensures in
    put_some _ _ _ _ _ _ _ p.1.0 p.1.1.0 e.0 e.1.0 e.1.1 _ _ c.if-w-eq0.false c.put_number.ensures c.put-2.ensures
