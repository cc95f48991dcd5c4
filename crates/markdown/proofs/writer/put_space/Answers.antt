-- `put_space` writes the record of a span of one space.
-- Assumes nothing.
use borrow.Author.Rules.{rules}
use Rattle.text.specs.Utf8.{utf8, size}
use Rattle.records.specs.Format.{encode_span}
use Rattle.markdown.proofs.writer.put_space.Goals as goal

pub returns : goal.returns
unfolding encode_span size utf8
returns c = search rules
