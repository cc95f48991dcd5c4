-- `Pen::pause` meets its contract.
-- Assumes nothing.
use mathlib.Core.Path.{refl, ap, ◌∙◌}
use mathlib.Core.Bool.{Bool, not}
use Rattle.html.specs.Pen.{pen_state}
use Rattle.html.specs.State.{line_start, paused}
use Rattle.html.specs.Struct.{out_of}
use Rattle.html.specs.State.{with_out}
use Rattle.html.proofs.OutLaws.{front_is}
use Rattle.html.proofs.words.Pen.pause.Goals as goal

pub returns : goal.returns
unfolding pen_state paused
returns c =
    let n = c.args.self.len in
    let w = c.args.out.now in
    (λ s. ap (λ (b : Bool). with_out (out_of n w) (not b) s) (c.line_start.ensures ∙ ap line_start (front_is n w c.requires)), refl)
