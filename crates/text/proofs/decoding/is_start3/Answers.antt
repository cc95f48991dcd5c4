-- `text::is_start3` meets its contract.
-- Assumes nothing.
use Rattle.text.proofs.StartLaws.{start3_is}
use Rattle.text.proofs.decoding.is_start3.Goals as goal

pub returns : goal.returns
returns c = λ t. rw c.within.ensures (start3_is c.args.a c.args.b t c.requires.0 c.requires.1.0)
