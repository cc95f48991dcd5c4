-- `markdown::classes::Quiet::has` meets its contract.
-- Assumes nothing.
use borrow.Author.Rules.{rules}
use Rattle.markdown.specs.Parts.{quiet}
use Rattle.markdown.proofs.classes.QuietByteClass.has.Goals as goal

pub returns : goal.returns
unfolding quiet
returns c = search rules
