-- `markdown::shape::heading` meets its contract.
-- Assumes nothing.
use Rattle.markdown.proofs.ShapeLaws.{title_long, title_other, title_is}
use native.Mathlib.Nat.{zero-add}
use mathlib.Core.Path.{sym, ◌∙◌}
use Rattle.markdown.proofs.shape.heading.Goals as goal

pub returns-then-level-gt6 : goal.returns-then-level-gt6
returns-then-level-gt6 c = title_long _ _ (c.run_end-level.ensures ∙ zero-add _) c.if-level-gt6.true

pub returns-then-not-starts_with : goal.returns-then-not-starts_with
returns-then-not-starts_with c = title_other _ _ (c.run_end-level.ensures ∙ zero-add _) (sym c.starts_with.ensures ∙ c.if-not-starts_with.true)

pub returns : goal.returns
returns c = title_is _ _ (c.run_end-level.ensures ∙ zero-add _) (sym c.starts_with.ensures ∙ c.if-not-starts_with.false) _ _ c.if-level-gt6.false c.trimmed_from.ensures c.min.ensures
