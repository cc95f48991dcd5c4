-- `push` meets its contract.
-- Assumes nothing.
use Rattle.html.proofs.OutLaws.{out_push}
use Rattle.html.proofs.output.push.Goals as goal

pub returns : goal.returns
returns c = out_push _ _ _ c.requires.0 c.requires.1
