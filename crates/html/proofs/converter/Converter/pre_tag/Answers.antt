-- `Converter::pre_tag` meets its contract.
-- Assumes nothing.
use mathlib.Core.Path.{ap}
use Rattle.html.specs.Struct.{state_of}
use Rattle.html.specs.State.{tag, with_pre}
use mathlib.Core.Bool.{not}
use Rattle.html.proofs.converter.Converter.pre_tag.Goals as goal

pub returns : goal.returns
unfolding tag state_of
returns c =
    ap (with_pre (not c.args.closing)) c.block-self.ensures
