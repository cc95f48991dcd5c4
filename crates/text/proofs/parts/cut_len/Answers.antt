-- `text::cut_len` meets its contract.
-- Assumes nothing.
use native.Mathlib.Omega.{arith}
use mathlib.Core.Path.{sym, ap, ◌∙◌}
use lib.ListN.{length}
use Rattle.text.proofs.CutLaws.{cut_all, cut_end_is}
use Rattle.text.proofs.parts.cut_len.Goals as goal

pub returns-then-s-n : goal.returns-then-s-n
returns-then-s-n c = sym (ap length (cut_all _ _ c.if-s-n.true))

pub returns : goal.returns
returns c =
    let a = c.args in
    c.cut_end.ensures ∙ sym (cut_end_is a.s.now a.n (omega arith))
