-- `text::Four::code_or_stray` meets its contract.
-- Assumes nothing.
use mathlib.Core.Path.{sym, ◌∙◌}
use Rattle.text.proofs.Sizes.{no_size}
use Rattle.text.proofs.Utf8.{size_0}
use Rattle.text.proofs.decoding.Four.code_or_stray.Goals as goal

pub returns-in-None : goal.returns-in-None
returns-in-None c = rw (size_0 _ _ _ _ (no_size _ (sym c.size.ensures ∙ c.in-None.is)))
