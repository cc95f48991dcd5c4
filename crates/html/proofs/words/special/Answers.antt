-- `special` meets its contract.
-- Assumes nothing.
use Rattle.html.specs.State.{special}
use Rattle.html.proofs.words.special.Goals as goal

pub returns : goal.returns
unfolding special
returns c = c.among.ensures
