-- `Converter::block` meets its contract.
-- Assumes nothing.
use Rattle.html.specs.State.{block}
use Rattle.html.specs.Struct.{state_of}
use Rattle.html.proofs.converter.Converter.block.Goals as goal

pub returns : goal.returns
unfolding block state_of
returns c =
    let a = c.args in
    c.blocked.ensures (state_of a.self a.out.now)
