-- `push_all` meets its contract.
-- Assumes nothing.
use mathlib.Core.Path.{refl}
use Rattle.html.proofs.OutLaws.{out_all}
use Rattle.html.proofs.output.push_all.Goals as goal

pub returns : goal.returns
returns c =
    let a = c.args in
    rw c.copy_from_slice.ensures.after (out_all a.n _ a.bytes.now a.out.now c.requires.1 c.requires.0 refl)
