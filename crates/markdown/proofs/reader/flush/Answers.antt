-- `markdown::flush` meets its contract.
-- Assumes nothing.
use Rattle.markdown.proofs.StateLaws.{safe_small, flush_none, flush_text}
use native.Mathlib.Omega.{arith}
use mathlib.Core.Path.{sym, ◌∙◌}
use borrow.Author.Tests.{eqb-true, eqb-false}
use Rattle.markdown.proofs.reader.flush.Goals as goal

pub returns-then-is_empty : goal.returns-then-is_empty
returns-then-is_empty c = flush_none _ _ _ _ c.requires.0 (eqb-true _ _ (sym c.is_empty.ensures ∙ c.if-is_empty.true))

pub put_paragraph-p-requires : goal.put_paragraph-p-requires
put_paragraph-p-requires c =
    let u = c.requires.0 in
    (omega (arith, c.requires.1), omega (arith, safe_small _ _ c.args.s _ u c.text_of-text.ensures))

pub returns : goal.returns
returns c =
    let e = c.put_paragraph-p.ensures in
    rw c.lent.ensures (flush_text _ _ _ _ _ _ _ c.requires.0 c.text_of-text.ensures (eqb-false _ _ (sym c.is_empty.ensures ∙ c.if-is_empty.false)) e.0 e.1)
