-- `markdown::continue_item` meets its contract.
-- Assumes nothing.
use Rattle.markdown.proofs.StoreLaws.{start_low, continue_state, continue_out}
use Rattle.spans.proofs.LineLaws.{line_few}
use native.Mathlib.Omega.{arith}
use Prim.Native.Nat.{◌+◌}
use Rattle.markdown.proofs.writer.continue_item.Goals as goal

pub overflow_add-start : goal.overflow_add-start
overflow_add-start c = let p = c.requires in omega (arith, c.next_span-start.ensures, start_low c.args.s.at c.args.item p.1.1.fields, p.0)

pub overflow_add-count-2 : goal.overflow_add-count-2
overflow_add-count-2 c = let p = c.requires in omega (arith, c.spans-w.ensures.1.0, line_few c.args.text.now (c.next_span-start.result + 6), p.0, p.1.0, p.1.1.count)

pub returns : goal.returns
returns c =
    let p = c.requires in
    let e = c.spans-w.ensures in
    let n = c.next_span-start.ensures in
    let l = start_low c.args.s.at c.args.item p.1.1.fields in
    let o = c.args.out.now in (
      continue_state c.args.s c.args.item _ o _ _ _ _ _ _ n (omega (arith, n, l, p.0)) p.1.0 e.0 e.1.0 c.put_space.ensures e.1.1 c.put_number.ensures c.put.ensures,
      continue_out c.args.s c.args.item _ o _ _ _ _ _ _ n (omega (arith, n, l, p.0)) p.1.0 e.0 e.1.0 c.put_space.ensures e.1.1 c.put_number.ensures c.put.ensures,
    )
