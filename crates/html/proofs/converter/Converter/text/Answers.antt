-- `Converter::text` meets its contract.
-- Assumes nothing.
use mathlib.Core.Path.{refl}
use Rattle.html.specs.Struct.{state_of}
use Rattle.html.specs.State.{text}
use Rattle.html.specs.Pen.{pen_state}
use Rattle.html.proofs.converter.Converter.text.Goals as goal

pub returns : goal.returns
unfolding pen_state state_of text
returns c =
    let a = c.args in
    c.ink-pen.ensures (state_of a.self a.out.now) refl
