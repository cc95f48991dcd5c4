-- `ends_blank` meets its contract.
-- Assumes nothing.
use Rattle.html.proofs.OutLaws.{blank_none, blank_last}
use Rattle.html.proofs.output.ends_blank.Goals as goal

pub returns-in_default : goal.returns-in_default
returns-in_default c = blank_none c.args.written.now c.in_default.len_below

pub returns-in-len2-up : goal.returns-in-len2-up
returns-in-len2-up c = blank_last c.args.written.now c.in-len2-up.len_at_least
