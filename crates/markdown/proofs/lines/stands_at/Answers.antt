-- `markdown::lines::stands_at` meets its contract.
-- Assumes nothing.
use borrow.Author.Tests.{eqb-false}
use mathlib.Core.Path.{sym, ◌∙◌}
use Rattle.markdown.proofs.RunLaws.{starts_past, starts_not}
use Rattle.markdown.proofs.lines.stands_at.Goals as goal
use Rattle.markdown.proofs.lines.stands_at.Goals.{then-j-s, else-j-s}

pub returns-else-s-j : goal.returns-else-s-j
returns-else-s-j c =
    let a = c.args in
    elim c.if-j-s.branch [
      | then-j-s w ↦ c.if-s-j.false ∙ starts_not a.mark.now a.s.now _ c.requires w.if-j-s.true (eqb-false _ _ (sym w.value-is ∙ c.if-s-j.false))
      | else-j-s w ↦ c.if-s-j.false ∙ starts_past a.mark.now a.s.now _ c.requires w.if-j-s.false
    ]
