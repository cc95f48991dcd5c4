-- `line_start` meets its contract.
-- Assumes nothing.
use Rattle.html.proofs.OutLaws.{start_none, start_last}
use Rattle.html.proofs.output.line_start.Goals as goal

pub returns-in-empty : goal.returns-in-empty
returns-in-empty c = start_none c.args.written.now c.in-empty.len_below

pub returns-in-len1-up : goal.returns-in-len1-up
returns-in-len1-up c = start_last c.args.written.now c.in-len1-up.len_at_least
