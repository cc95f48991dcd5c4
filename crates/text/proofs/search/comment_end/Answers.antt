-- `text::comment_end` meets its contract.
-- Assumes nothing.
use mathlib.Core.Path.{sym, ◌∙◌}
use native.Mathlib.Omega.{arith}
use Rattle.text.proofs.CloseLaws.{end_nowhere, end_here}
use Rattle.text.proofs.search.comment_end.Goals as goal

pub returns-in_default : goal.returns-in_default
returns-in_default c =
    end_nowhere c.args.s.now c.args.i (sym c.close.ensures ∙ c.in_default.is)

pub overflow_add-result : goal.overflow_add-result
overflow_add-result c =
    omega (arith, (end_here c.args.s.now c.args.i c.in-Some.at (sym c.close.ensures ∙ c.in-Some.is)).1)

pub returns : goal.returns
returns c =
    (end_here c.args.s.now c.args.i c.in-Some.at (sym c.close.ensures ∙ c.in-Some.is)).0
