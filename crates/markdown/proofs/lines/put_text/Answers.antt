-- `markdown::put_text` meets its contract.
-- Assumes nothing.
use native.Mathlib.Omega.{arith}
use Rattle.markdown.specs.Parts.{text_of}
use Rattle.markdown.proofs.PartLaws.{copied_part}
use Rattle.markdown.proofs.lines.put_text.Goals as goal

pub returns-then-text : goal.returns-then-text
unfolding text_of
returns-then-text c =
    let p₀ = c.args.text.part in
    let p = c.requires in
    let v = c.split_at_mut-front.ensures in
    let part = copied_part c.args.work.now p₀.start p₀.end c.args.at p.0 (omega (arith, p.1.0, p.1.1.0)) p.1.1.1 in
    rw (c.if-text.true, c.put_bytes.ensures, v.front, v.back) part

pub returns : goal.returns
unfolding text_of
returns c = rw c.if-text.false c.put_bytes-2.ensures
