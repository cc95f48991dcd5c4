-- `filter::filtered` meets its contract: which of the two texts it is follows from the test of the length.
-- Assumes nothing.
use mathlib.Core.Path.{◌∙◌}
use native.Mathlib.Omega.{arith}
use borrow.Author.Rules.{rules}
use Rattle.text.specs.Words.{str}
use Rattle.filter.proofs.ProgramLaws.{stored_front, text_long, text_short}
use Rattle.filter.proofs.filtered.Goals as goal

pub returns-then-input-gt16384 : goal.returns-then-input-gt16384
returns-then-input-gt16384 c =
    let args = c.args in
    rw (text_long args.input.now (omega (arith, c.if-input-gt16384.true)))
    (c.line.ensures.0, c.line.ensures.1 ∙ stored_front (str "too long\n") args.out.now (search rules))

pub returns : goal.returns
returns c =
    rw (text_short c.args.input.now (omega (arith, c.if-input-gt16384.false))) c.convert.ensures
