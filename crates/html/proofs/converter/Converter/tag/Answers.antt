-- `Converter::tag` meets its contract.
-- Assumes nothing.
use mathlib.Core.Path.{ap, ◌∙◌}
use mathlib.Core.Option.{some}
use Rattle.html.specs.Struct.{state_of}
use Rattle.html.proofs.StepLaws.{listed_list, listed_step, listed_other}
use Rattle.html.proofs.converter.Converter.tag.Goals as goal

pub returns-in-List : goal.returns-in-List
returns-in-List c =
    let a = c.args in
    let s = state_of a.self a.out.now in
    rw c.in-List.is (c.list.ensures ∙ listed_list c.in-List.kind a.closing s)

pub returns-in-Skipped : goal.returns-in-Skipped
returns-in-Skipped c = rw c.in-Skipped.is (listed_other _ _)

pub returns-in-Writes : goal.returns-in-Writes
returns-in-Writes c =
    let a = c.args in
    let s = state_of a.self a.out.now in
    rw c.in-Writes.is (ap some c.step.ensures ∙ listed_step c.in-Writes.step a.closing s)
