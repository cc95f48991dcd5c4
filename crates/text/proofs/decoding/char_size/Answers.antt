-- `text::char_size` meets its contract.
-- Assumes nothing.
use native.Mathlib.Omega.{arith}
use mathlib.Core.Path.{sym, ap, ◌∙◌}
use Rattle.text.specs.Utf8.{char_size, some_size}
use Rattle.text.proofs.Utf8.{char_four}
use Rattle.text.proofs.decoding.char_size.Goals as goal

pub returns : goal.returns
returns c = c.size.ensures ∙ sym (ap (λ x. some_size (char_size x)) (char_four c.args.s.now c.args.i _ (omega arith) c.four_at.ensures))
