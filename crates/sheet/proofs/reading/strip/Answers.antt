-- `sheet::reading::strip` meets its contract.
-- Assumes nothing.
use Rattle.sheet.proofs.TestTags.{strips, strips_not}
use Rattle.sheet.proofs.reading.strip.Goals as goal

pub returns-then-not-starts_with : goal.returns-then-not-starts_with
returns-then-not-starts_with c = strips_not c.args.tag.now c.args.page.now c.requires c.if-not-starts_with.ensures

pub split_at-requires : goal.split_at-requires
split_at-requires c = (strips c.args.tag.now c.args.page.now c.requires c.if-not-starts_with.ensures).1

pub returns : goal.returns
returns c = rw c.split_at.ensures.back (strips c.args.tag.now c.args.page.now c.requires c.if-not-starts_with.ensures).0
