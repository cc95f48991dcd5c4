-- `is_plain` meets its contract.
-- Assumes nothing.
use Rattle.spans.proofs.Marks.{bang_plain, other_plain}
use Rattle.spans.proofs.is_plain.Goals as goal

pub returns-then-c-eq33 : goal.returns-then-c-eq33
returns-then-c-eq33 c = let a = c.args in rw c.byte.ensures (bang_plain a.line.now a.i c.if-c-eq33.true)

pub returns : goal.returns
returns c = let a = c.args in other_plain a.line.now a.i c.if-c-eq33.false
