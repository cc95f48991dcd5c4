-- `markdown::put_fields` meets its contract.
-- Assumes nothing.
use Rattle.markdown.proofs.StoreLaws.{fields_flat, fields_deep}
use Rattle.markdown.proofs.writer.put_fields.Goals as goal

pub returns-then-depth-eq0 : goal.returns-then-depth-eq0
returns-then-depth-eq0 c = fields_flat c.args.digits.bytes.now _ _ _ _ _ c.if-depth-eq0.true c.put_marker.ensures

pub returns : goal.returns
returns c = fields_deep c.args.digits.bytes.now _ _ _ _ _ _ c.if-depth-eq0.false c.put_number.ensures c.put_marker-2.ensures
