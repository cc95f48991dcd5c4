-- `Converter::newline` meets its contract.
-- Assumes nothing.
use Rattle.html.specs.State.{newline}
use Rattle.html.specs.Struct.{state_of}
use Rattle.html.proofs.converter.Converter.newline.Goals as goal

pub returns : goal.returns
unfolding newline state_of
returns c =
    let a = c.args in
    c.line_ended.ensures (state_of a.self a.out.now)
