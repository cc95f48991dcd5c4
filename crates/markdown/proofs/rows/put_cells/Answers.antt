-- `markdown::rows::put_cells` meets its contract. The loop's invariant: what is stored and the cells of what is left make up the row's.
-- Assumes nothing.
use Rattle.markdown.proofs.CellFill.{filling_dot, filling_other, filling_end}
use Rattle.markdown.proofs.rows.put_cells.Goals as goal

pub loop-i-preserved-in_default : goal.loop-i-preserved-in_default
loop-i-preserved-in_default c = filling_other _ _ _ _ _ _ _ c.loop-i.invariant c.requires.1.0 c.requires.1.1 c.loop-i-test.true _ c.bar_of.ensures c.in_default.is

pub loop-i-preserved : goal.loop-i-preserved
loop-i-preserved c = filling_dot _ _ _ _ _ _ _ c.loop-i.invariant c.requires.1.0 c.requires.1.1 c.loop-i-test.true _ c.bar_of.ensures _ _ c.in-Some.is c.put_bytes.ensures

pub returns : goal.returns
returns c = filling_end _ _ _ _ _ _ _ c.loop-i.invariant c.requires.1.0 c.requires.1.1 c.loop-i-test.false
