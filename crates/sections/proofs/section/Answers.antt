-- `sections::section`: the place that `section_range` answers is inside the records, which are bytes by their type.
-- Assumes nothing.
use Rattle.records.proofs.DecodeSteps.{bytes_are}
use Rattle.sections.proofs.CallLaws.{range_within}
use Rattle.sections.proofs.section.Goals as goal

pub of-requires : goal.of-requires
of-requires c = range_within c.args.records.now c.args.title.now (bytes_are c.args.records.now c.type_inv.records) c.section_range.ensures
