-- `markdown::reader::read_line` meets its contract.
-- Assumes nothing.
use Rattle.markdown.proofs.ReadLine.{line_small, words_given, words_fit, words_scalars, step_blank, step_hash, step_item, step_text}
use native.Mathlib.Omega.{arith}
use Rattle.markdown.proofs.reader.read_line.Goals as goal

pub returns-then-a-words : goal.returns-then-a-words
returns-then-a-words c = step_blank _ _ _ _ c.requires _ c.text_of-text.ensures _ c.trimmed_from-words.ensures _ _ _ _ c.if-a-words.true c.flush.ensures

pub hash_line-requires : goal.hash_line-requires
hash_line-requires c = (words_given _ _ _ _ c.requires _ c.text_of-text.ensures _ c.trimmed_from-words.ensures, c.requires.low)

pub returns-then-text-a-eq35 : goal.returns-then-text-a-eq35
returns-then-text-a-eq35 c = step_hash _ _ _ _ c.requires _ c.text_of-text.ensures _ c.trimmed_from-words.ensures _ _ _ _ c.if-a-words.false c.if-text-a-eq35.true c.hash_line.ensures

pub item_line-requires : goal.item_line-requires
item_line-requires c =
    let g = c.requires in
    ((g.safe, omega (arith, g.low)), (line_small _ _ _ _ c.requires _ c.text_of-text.ensures _ c.trimmed_from-words.ensures, rw c.in-Some.is at c.list_marker.ensures))

pub text_line-requires : goal.text_line-requires
text_line-requires c =
    let v = c.trimmed_from-words.ensures in (
      words_given _ _ _ _ c.requires _ c.text_of-text.ensures _ c.trimmed_from-words.ensures,
      (
        omega (arith, v.order, c.if-a-words.false),
        (
          words_fit _ _ _ _ c.requires _ c.text_of-text.ensures _ c.trimmed_from-words.ensures,
          words_scalars _ _ _ _ c.requires _ c.text_of-text.ensures _ c.trimmed_from-words.ensures,
        ),
      ),
    )

pub returns-in_default : goal.returns-in_default
returns-in_default c =
    step_text _ _ _ _ c.requires _ c.text_of-text.ensures _ c.trimmed_from-words.ensures _ _ _ _ c.if-a-words.false c.if-text-a-eq35.false
    (rw c.in_default.is at c.list_marker.ensures) c.text_line.ensures

pub returns : goal.returns
returns c =
    step_item _ _ _ _ c.requires _ c.text_of-text.ensures _ c.trimmed_from-words.ensures _ _ _ _ c.if-a-words.false c.if-text-a-eq35.false _
    (rw c.in-Some.is at c.list_marker.ensures) c.item_line.ensures
