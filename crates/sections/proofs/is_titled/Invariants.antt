-- `sections::is_titled`: each turn compares the text of one span, and leaves the others and the rest of the title.
-- Assumes nothing.
use Rattle.sections.proofs.TitleLaws.{Meets}
use Rattle.sections.proofs.is_titled.Given as goal

abbrev pub invariant-loop-n : goal.invariant-loop-n
invariant-loop-n l = Meets l.records l.at l.title l.count l.here l.met l._n
