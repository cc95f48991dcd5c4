-- `markdown::put_marker` meets its contract.
-- Assumes nothing.
use Rattle.markdown.proofs.StoreLaws.{marker_none, marker_some}
use Rattle.markdown.proofs.writer.put_marker.Goals as goal

pub returns-then-n-eq0 : goal.returns-then-n-eq0
returns-then-n-eq0 c = marker_none c.args.digits.bytes.now _ c.args.out.now _ c.if-n-eq0.true c.put_bytes.ensures

pub returns : goal.returns
returns c = marker_some c.args.digits.bytes.now _ c.args.out.now _ _ _ c.args.digits.ascii c.if-n-eq0.false c.put.ensures c.put_bytes-2.ensures c.put-2.ensures
