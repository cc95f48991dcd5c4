-- `text::is_space` meets its contract.
-- Assumes nothing.
use Rattle.text.proofs.TrimLaws.{space_ascii, space_near, space_mid, space_far}
use Rattle.text.proofs.classes.is_space.Goals as goal

pub returns-then-c-lt128 : goal.returns-then-c-lt128
returns-then-c-lt128 c = rw (c.within.ensures, space_ascii c.args.c c.if-c-lt128.true)

pub returns-then-c-ge8288 : goal.returns-then-c-ge8288
returns-then-c-ge8288 c = rw (space_far c.args.c c.if-c-ge8288.true)

pub returns-then-c-lt8192 : goal.returns-then-c-lt8192
returns-then-c-lt8192 c = rw (space_near c.args.c c.if-c-lt128.false c.if-c-lt8192.true)

pub returns : goal.returns
returns c = rw (c.within-2.ensures, space_mid c.args.c c.if-c-lt8192.false c.if-c-ge8288.false)
