-- `Converter::new` meets its contract.
-- Assumes nothing.
use Rattle.html.specs.Struct.{state_of, out_of}
use Rattle.text.proofs.Laws.{chars_nil}
use Rattle.html.proofs.converter.Converter.new.Goals as goal

pub returns : goal.returns
unfolding state_of out_of
returns c = λ w. rw chars_nil
