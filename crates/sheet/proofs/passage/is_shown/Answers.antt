-- `sheet::passage::is_shown` meets its contract.
-- Assumes nothing.
use Rattle.std.proofs.Common.{arith}
use Rattle.std.proofs.lemmas.Bool.Decides.{nat_tests}
use Rattle.text.specs.Chars.{is_space, is_control}
use Rattle.sheet.specs.Grammar.{shown}
use Rattle.sheet.proofs.passage.is_shown.Goals as goal

pub returns-then-c-lt128 : goal.returns-then-c-lt128
unfolding shown is_control is_space
returns-then-c-lt128 c = grind (arith, nat_tests)

pub returns : goal.returns
unfolding shown
returns c = rw (c.is_control.ensures, c.is_space.ensures)
