-- `reader::block_read`: the block that its four readers found.
-- Assumes nothing.
use Rattle.walker.proofs.BlockLaws.{whole}
use Rattle.walker.proofs.reader.block_read.Goals as goal

pub returns : goal.returns
returns c =
    whole c.args.bytes c.args.at c.byte.new.self c.kind.new.self c.count.new.self c.spans.new.self
    c.in_ok-m.ensures c.if-m-ge16.false c.in_ok-fields.ensures c.in_ok-count.ensures c.in_ok-spans.ensures
