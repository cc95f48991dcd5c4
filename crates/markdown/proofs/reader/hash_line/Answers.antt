-- `markdown::reader::hash_line` meets its contract.
-- Assumes nothing.
use Rattle.markdown.proofs.LineSteps.{title_small, title_step, opened_step}
use Rattle.markdown.specs.Shape.{Titled}
use native.Mathlib.Omega.{arith}
use Rattle.markdown.proofs.reader.hash_line.Goals as goal
use Rattle.markdown.proofs.reader.hash_line.Goals.{In-Some}

-- the line is a heading
titled : (c : In-Some) → Titled c.text_of-line.result.now c.in-Some.title
titled c = rw c.in-Some.is at c.heading.ensures

pub put_heading-requires : goal.put_heading-requires
put_heading-requires c = let t = titled (goal.at.put_heading-requires c).In-Some in (
  omega (arith, c.flush-p.ensures.grows, c.requires.1),
  (
    rw c.of.ensures.bytes (omega (
      arith,
      title_small _ _ _ _ _ c.args.s _ c.flush-p.result c.args.text.copied _ _ c.requires.0 c.text_of-line.ensures c.flush-p.ensures _ t,
    )),
    t.low,
  ),
)

pub returns-in_default : goal.returns-in_default
returns-in_default c =
    opened_step _ _ _ _ _ c.args.s _ _ c.args.text.copied _ _ c.requires.0 c.text_of-line.ensures c.flush-p.ensures
    _ (rw c.in_default.is at c.heading.ensures) (c.open_paragraph.ensures _)

pub returns : goal.returns
returns c =
    let e = rw c.of.ensures.bytes at c.put_heading.ensures in
    title_step _ _ _ _ _ c.args.s _ _ c.args.text.copied _ _ c.requires.0 c.text_of-line.ensures c.flush-p.ensures _ _ (titled (goal.at.returns c).In-Some) e.0 e.1
