-- `markdown::reader::make_row` meets its contract.
-- Assumes nothing.
use Rattle.markdown.proofs.LineSteps.{row_size, row_part, row_made}
use Rattle.text.specs.Utf8.{chars, Scalars}
use Prim.Native.Nat.{ℕ}
use mathlib.Core.List.{List}
use native.Mathlib.Omega.{arith}
use mathlib.Core.Path.{sym, subst}
use Rattle.markdown.proofs.reader.make_row.Goals as goal

pub put_row-end-requires : goal.put_row-end-requires
put_row-end-requires c =
    let p = c.requires in
    let z = row_size _ _ _ c.args.text.copied _ _ c.requires.0.0 c.requires.0.1 c.requires.1.0 c.put_text.ensures in rw c.len.ensures (
      omega arith,
      (
        omega (arith, p.0.1),
        (
          omega (arith, z, p.0.1, p.1.0),
          subst (λ (l : List ℕ). Scalars (chars l))
              (sym (row_part _ _ _ c.args.text.copied _ _ c.requires.0.0 c.requires.0.1 c.requires.1.0 c.put_text.ensures)) p.1.1,
        ),
      ),
    )

pub returns : goal.returns
returns c =
    let r = rw c.len.ensures at c.put_row-end.ensures in
    row_made _ _ _ c.args.text.copied _ _ c.requires.0.0 c.requires.0.1 c.requires.1.0 c.put_text.ensures _ _ _ r c.put_row-end.auto.work c.trimmed.ensures
