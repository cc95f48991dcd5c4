-- `text::size_at` meets its contract.
-- Assumes nothing.
use native.Mathlib.Omega.{arith}
use mathlib.Core.Path.{sym, ap, ◌∙◌}
use lib.ListN.{drop}
use Rattle.text.specs.Utf8.{char, size_of}
use Rattle.text.proofs.Utf8.{char_past}
use Rattle.text.proofs.Laws.{next_is, size_or_one}
use Rattle.text.proofs.decoding.size_at.Goals as goal

pub returns-then-s-i : goal.returns-then-s-i
returns-then-s-i c = sym (ap size_of (char_past c.args.s.now c.args.i c.if-s-i.true))

pub returns : goal.returns
returns c = c.unwrap_or.ensures ∙ rw c.char_size.ensures (size_or_one (char (drop c.args.i c.args.s.now)) (next_is c.args.s.now c.args.i (omega arith)).low)
