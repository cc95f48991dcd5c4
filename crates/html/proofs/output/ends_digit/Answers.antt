-- `ends_digit` meets its contract.
-- Assumes nothing.
use mathlib.Core.Path.{◌∙◌}
use Rattle.html.proofs.OutLaws.{digit_none, digit_last}
use Rattle.html.proofs.output.ends_digit.Goals as goal

pub returns-in-empty : goal.returns-in-empty
returns-in-empty c = digit_none c.args.written.now c.in-empty.len_below

pub returns-in-len1-up : goal.returns-in-len1-up
returns-in-len1-up c = c.is_ascii_digit.ensures.value ∙ digit_last c.args.written.now c.in-len1-up.len_at_least
