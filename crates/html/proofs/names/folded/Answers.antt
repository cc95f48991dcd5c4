-- `folded` meets its contract.
-- Assumes nothing.
use Rattle.std.proofs.Common.{rules, tests, arith}
use Rattle.std.proofs.lemmas.Bool.Decides.{nat_tests}
use Rattle.html.specs.Names.{folded}
use Rattle.html.proofs.names.folded.Goals as goal

pub returns-in-65-to-90 : goal.returns-in-65-to-90
unfolding folded
returns-in-65-to-90 c = search (rules, tests)

pub returns-in-48-to-57 : goal.returns-in-48-to-57
unfolding folded
returns-in-48-to-57 c = search (rules, tests)

pub returns-in-48-to-57-2 : goal.returns-in-48-to-57-2
unfolding folded
returns-in-48-to-57-2 c = search (rules, tests)

pub returns-in_default : goal.returns-in_default
unfolding folded
returns-in_default c = search (rules, tests)

pub returns-in_default-2 : goal.returns-in_default-2
unfolding folded
returns-in_default-2 c = grind (arith, nat_tests)

pub returns-in_default-3 : goal.returns-in_default-3
unfolding folded
returns-in_default-3 c = grind (arith, nat_tests)

pub returns-in_default-4 : goal.returns-in_default-4
unfolding folded
returns-in_default-4 c = grind (arith, nat_tests)
