-- `escapes` meets its contract.
-- Assumes nothing.
use mathlib.Core.Path.{sym, ◌∙◌}
use Rattle.html.specs.Struct.{last_first}
use Rattle.html.proofs.TextLaws.{escape_special, escape_opens, escape_other, escape_first, escape_later}
use Rattle.html.proofs.words.escapes.Goals as goal

pub returns-then-special : goal.returns-then-special
returns-then-special c =
    let a = c.args in
    let o = last_first a.written.now in
    escape_special a.first a.c o (sym c.special.ensures ∙ c.if-special.true)

pub returns-then-opens : goal.returns-then-opens
returns-then-opens c =
    let a = c.args in
    let o = last_first a.written.now in
    c.line_start.ensures
    ∙ escape_opens a.first a.c o (sym c.special.ensures ∙ c.if-special.false) (sym c.opens.ensures ∙ c.if-opens.true)

pub returns-then-c-ne46 : goal.returns-then-c-ne46
returns-then-c-ne46 c =
    let a = c.args in
    let o = last_first a.written.now in
    escape_other a.first a.c o (sym c.special.ensures ∙ c.if-special.false) (sym c.opens.ensures ∙ c.if-opens.false) c.if-c-ne46.true

pub returns-then-first : goal.returns-then-first
returns-then-first c =
    let a = c.args in
    let o = last_first a.written.now in
    c.ends_digit.ensures
    ∙ escape_first a.first a.c o (sym c.special.ensures ∙ c.if-special.false) (sym c.opens.ensures ∙ c.if-opens.false) c.if-c-ne46.false c.if-first.true

pub returns : goal.returns
returns c =
    let a = c.args in
    let o = last_first a.written.now in
    escape_later a.first a.c o (sym c.special.ensures ∙ c.if-special.false) (sym c.opens.ensures ∙ c.if-opens.false) c.if-c-ne46.false c.if-first.false
