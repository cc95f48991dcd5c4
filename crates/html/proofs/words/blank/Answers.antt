-- `blank` meets its contract.
-- Assumes nothing.
use Rattle.html.specs.State.{blank}
use Rattle.html.proofs.words.blank.Goals as goal

pub returns : goal.returns
unfolding blank
returns c = rw c.is_space.ensures
