-- `sheet::passage::weight_of` meets its contract.
-- Assumes nothing.
use Rattle.std.proofs.Common.{sym, ◌∙◌, arith}
use Rattle.text.proofs.Laws.{utf8_size}
use Rattle.sheet.proofs.TestGist.{weight_special, weight_other}
use Rattle.sheet.proofs.passage.weight_of.Goals as goal

pub overflow_add-result : goal.overflow_add-result
overflow_add-result c =
    let a = c.args in
    let l = utf8_size a.c in
    omega (arith, c.width-n.ensures)

pub returns-then-special : goal.returns-then-special
returns-then-special c =
    let a = c.args in
    weight_special a.c (sym c.special.ensures ∙ c.if-special.true) c.width-n.ensures

pub returns : goal.returns
returns c =
    let a = c.args in
    weight_other a.c (sym c.special.ensures ∙ c.if-special.false) c.width-n.ensures
