-- `spans`: the test of the guard, and the reader.
-- Assumes nothing.
use Rattle.spans.proofs.LineLaws.{line_none, wrote_none, wrote_all}
use Rattle.spans.proofs.spans.Goals as goal

pub returns-then-line-at : goal.returns-then-line-at
returns-then-line-at c =
    let a = c.args in
    wrote_all a.line.now a.out.now a.at _ _ _ c.if-line-at.true (rw (c.default.ensures.0, c.default.ensures.1) at c.spans_in.ensures)

pub returns : goal.returns
returns c =
    let a = c.args in
    wrote_none a.line.now a.out.now a.at (line_none a.line.now a.at c.if-line-at.false)
