-- `markdown::add_text` meets its contract.
-- Assumes nothing.
use Rattle.markdown.proofs.ParagraphLaws.{add_first, add_more}
use native.Mathlib.Omega.{arith}
use mathlib.Core.Path.{sym, ◌∙◌}
use borrow.Author.Tests.{eqb-true, eqb-false}
use Rattle.markdown.proofs.reader.add_text.Goals as goal

pub returns-then-is_empty : goal.returns-then-is_empty
returns-then-is_empty c = λ out. add_first _ _ _ out c.args.s _ _ _ _ _ (eqb-true _ _ (sym c.is_empty.ensures ∙ c.if-is_empty.true)) (c.open_paragraph.ensures out)

pub returns : goal.returns
returns c = λ out. add_more _ _ _ out c.args.s _ _ _ _ _ (omega (arith, eqb-false _ _ (sym c.is_empty.ensures ∙ c.if-is_empty.false), c.requires.0.safe.order)) (c.join_paragraph.ensures out)
