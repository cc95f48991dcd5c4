-- `sections::section_range`: the place that `section_at` answers, or nowhere.
-- Assumes nothing.
use native.Mathlib.Omega.{arith}
use Rattle.sections.proofs.CallLaws.{range_is}
use Rattle.sections.proofs.section_range.Goals as goal

pub returns-in_default : goal.returns-in_default
returns-in_default c = grind (arith, range_is c.args.records.now c.args.title.now c.section_at.result c.section_at.ensures)

pub returns-in_default-2 : goal.returns-in_default-2
returns-in_default-2 c = grind (arith, range_is c.args.records.now c.args.title.now c.section_at.result c.section_at.ensures)

pub returns : goal.returns
returns c = grind (arith, range_is c.args.records.now c.args.title.now c.section_at.result c.section_at.ensures)
