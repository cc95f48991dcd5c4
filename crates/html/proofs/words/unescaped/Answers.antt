-- `unescaped` meets its contract.
-- Assumes nothing.
use mathlib.Core.Path.{sym, ◌∙◌}
use native.Mathlib.Omega.{arith}
use Rattle.html.proofs.TextLaws.{piece_left, piece_replaced, replaced_bound, piece_ascii}
use Rattle.html.proofs.words.unescaped.Goals as goal

pub returns-in_default : goal.returns-in_default
returns-in_default c =
    let a = c.args in
    piece_left a.raw.now a.i c.requires.0 c.requires.1 c.if-b-eq38.true (sym c.reference.ensures ∙ c.in_default.is)

pub overflow_add-result-then-b-eq38-2 : goal.overflow_add-result-then-b-eq38-2
overflow_add-result-then-b-eq38-2 c =
    let a = c.args in
    omega (arith, replaced_bound a.raw.now a.i c.requires.0 c.requires.1 c.if-b-eq38.true c.in-Some.found (sym c.reference.ensures ∙ c.in-Some.is))

pub returns-then-b-eq38 : goal.returns-then-b-eq38
returns-then-b-eq38 c =
    let a = c.args in
    piece_replaced a.raw.now a.i c.requires.0 c.requires.1 c.if-b-eq38.true c.in-Some.found (sym c.reference.ensures ∙ c.in-Some.is)

pub returns-then-b-lt128 : goal.returns-then-b-lt128
returns-then-b-lt128 c = let a = c.args in piece_ascii a.raw.now a.i c.requires.0 c.requires.1 c.if-b-lt128.true c.if-b-eq38.false
