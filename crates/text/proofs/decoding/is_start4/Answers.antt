-- `text::is_start4` meets its contract.
-- Assumes nothing.
use Rattle.text.proofs.StartLaws.{start4_is}
use Rattle.text.proofs.decoding.is_start4.Goals as goal

pub returns : goal.returns
returns c = λ t. rw c.within.ensures (start4_is c.args.a c.args.b t c.requires.0)
