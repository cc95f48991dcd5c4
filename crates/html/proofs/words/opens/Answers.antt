-- `opens` meets its contract.
-- Assumes nothing.
use Rattle.html.specs.State.{opens}
use Rattle.html.proofs.words.opens.Goals as goal

pub returns : goal.returns
unfolding opens
returns c = c.among.ensures
