-- `markdown::read` meets its contract. The loop's invariant: the state stands for a reader, and what is left gives it the blocks of the whole Markdown.
-- Assumes nothing.
use Rattle.markdown.proofs.ReadAll.{reading_none, reading_line, reading_next, reading_blank, reading_end}
use borrow.Author.Tests.{eqb-true}
use Rattle.text.proofs.Tests.{and_true}
use Rattle.markdown.proofs.read.Goals as goal

pub loop-i-init : goal.loop-i-init
loop-i-init c = let p = c.requires in rw c.new-s.ensures (reading_none _ _ _ p.0 p.1.0 p.1.1)

pub loop-i-preserved-then-markdown-i : goal.loop-i-preserved-then-markdown-i
loop-i-preserved-then-markdown-i c =
    let l = c.loop-i in
    let e = and_true _ _ (rw c.is_empty.ensures at c.if-markdown-i.true) in
    reading_blank _ _ _ _ _ _ _ l.invariant c.loop-i-test.true (eqb-true _ _ e.0) (eqb-true _ _ e.1)

pub read_line-s-requires : goal.read_line-s-requires
read_line-s-requires c = reading_line _ _ _ _ _ _ _ c.loop-i.invariant _ _ c.loop-i-test.true c.next_line-line.ensures c.next_line-line.auto.work

pub loop-i-preserved : goal.loop-i-preserved
loop-i-preserved c =
    reading_next _ _ _ _ _ _ _ c.loop-i.invariant _ _ c.loop-i-test.true c.next_line-line.ensures c.next_line-line.auto.work _ _ _ c.read_line-s.auto.work
    c.read_line-s.auto.out c.read_line-s.ensures

pub returns : goal.returns
returns c = reading_end _ _ _ _ _ _ _ c.loop-i.invariant _ _ c.requires.1.0 c.loop-i-test.false c.flush-end.ensures
