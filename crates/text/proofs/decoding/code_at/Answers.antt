-- `text::code_at` meets its contract.
-- Assumes nothing.
use mathlib.Core.Path.{sym, ◌∙◌}
use Rattle.text.proofs.Utf8.{char_past, char_four}
use Rattle.text.proofs.Laws.{code_is, code_end}
use Rattle.text.proofs.decoding.code_at.Goals as goal

pub returns-then-s-i : goal.returns-then-s-i
returns-then-s-i c = sym (code_end _ _ (char_past c.args.s.now c.args.i c.if-s-i.true))

pub returns : goal.returns
returns c = c.code_or_stray.ensures ∙ sym (rw (code_is c.args.s.now c.args.i c.if-s-i.false, char_four c.args.s.now c.args.i _ c.if-s-i.false c.four_at.ensures, c.four_at.ensures.first))
