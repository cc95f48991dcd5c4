-- `markdown::put_heading` meets its contract.
-- Assumes nothing.
use Rattle.markdown.proofs.StoreLaws.{block_stored, at_block, plain_state}
use native.Mathlib.Omega.{arith}
use Rattle.text.specs.Utf8.{chars}
use Rattle.spans.specs.Spans.{spans}
use Rattle.records.specs.Blocks.{Heading}
use Rattle.markdown.proofs.writer.put_heading.Goals as goal

pub returns : goal.returns
returns c =
    let b = Heading c.args.level (spans (chars c.args.text.now)) in
    let p = c.put_spans-w.ensures in
    (plain_state c.args.s b _ (at_block b _ _ _ (omega arith) p.next), block_stored b _ _ _ _ _ c.put.ensures (omega arith) p.stored)
