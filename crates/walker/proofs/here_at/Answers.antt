-- `walker::here_at`: the span that the cursor read, and none past the end.
-- Assumes nothing.
use Rattle.walker.proofs.WalkerLaws.{here_is, here_past}
use Rattle.walker.proofs.here_at.Goals as goal

pub returns-then-records-at : goal.returns-then-records-at
returns-then-records-at c = here_past c.args.records.now c.args.at c.if-records-at.true

pub returns : goal.returns
returns c = here_is c.args.records c.args.at c.span.new.self c.span.result c.span.ensures
