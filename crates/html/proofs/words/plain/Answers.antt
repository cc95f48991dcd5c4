-- `plain` meets its contract.
-- Assumes nothing.
use Rattle.html.specs.Pen.{plain}
use Rattle.html.proofs.words.plain.Goals as goal

pub returns : goal.returns
unfolding plain
returns c = rw c.special.ensures
