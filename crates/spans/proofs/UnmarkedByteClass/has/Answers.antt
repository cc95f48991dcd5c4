-- The class has the bytes that are text wherever they stand.
-- Assumes nothing.
use mathlib.Core.Path.{refl}
use Rattle.spans.specs.State.{unmarked}
use Rattle.spans.proofs.UnmarkedByteClass.has.Goals as goal

pub returns : goal.returns
unfolding unmarked
returns c = refl
