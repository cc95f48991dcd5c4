-- `markdown::rows::put_row` meets its contract.
-- Assumes nothing.
use Rattle.markdown.proofs.CellFill.{row_start, row_stored}
use Rattle.markdown.proofs.PartLaws.{part_length}
use native.Mathlib.Omega.{arith}
use native.Mathlib.Nat.{zero-add}
use mathlib.Core.Path.{◌∙◌}
use Prim.Native.Nat.{◌+◌, ◌≤◌}
use Rattle.markdown.proofs.rows.put_row.Goals as goal
use Rattle.markdown.proofs.rows.put_row.Goals.{After-end_without, After-run_end}

-- where the row starts and ends without the bars around it
started : (c : After-run_end) → c.args.part.start + c.run_end.result ≤ c.args.part.end
started c = let p = c.requires in row_start _ _ _ _ 0 p.0 (omega (arith, p.1.0, p.1.1.0)) (c.run_end.ensures ∙ zero-add _)

ended : (c : After-end_without) → c.args.part.start + c.run_end.result + c.end_without.result ≤ c.args.part.end
ended c =
    let p = c.requires in
    let h = started (goal.at.After-end_without c).After-run_end in
    omega (arith, c.end_without.ensures.1, part_length c.args.work.now (c.args.part.start + c.run_end.result) c.args.part.end h (omega (arith, p.1.0, p.1.1.0)))

pub overflow_add-a : goal.overflow_add-a
overflow_add-a c = omega (arith, started c, c.requires.1.0, c.requires.1.1.0)

pub slice_bounds-end_without-count : goal.slice_bounds-end_without-count
slice_bounds-end_without-count c = started c

pub slice_bounds-end_without-start : goal.slice_bounds-end_without-start
slice_bounds-end_without-start c = started c

pub overflow_add-b : goal.overflow_add-b
overflow_add-b c = omega (arith, ended c, c.requires.1.0, c.requires.1.1.0)

pub put_cells-requires : goal.put_cells-requires
put_cells-requires c =
    let h = ended (goal.at.put_cells-requires c).After-end_without in
    let p = c.requires in
    (omega arith, (omega (arith, p.1.0), omega (arith, p.1.1.0)))

pub returns : goal.returns
returns c =
    let p = c.requires in
    row_stored _ _ _ _ _ p.0 (omega (arith, p.1.0, p.1.1.0)) (c.run_end.ensures ∙ zero-add _) c.end_without.ensures.0 c.end_without.ensures.1 _ _ _ p.1.1.1 c.put_cells.ensures
