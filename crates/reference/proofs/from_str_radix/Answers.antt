-- `reference::from_str_radix` meets its contract.
-- Assumes nothing.
use mathlib.Core.Path.{ap, ◌∙◌}
use Rattle.reference.specs.Answers.{value}
use Rattle.reference.proofs.PrefixLaws.{plus_passed}
use Rattle.reference.proofs.from_str_radix.Goals as goal

pub returns : goal.returns
returns c = c.some_digits.ensures ∙ ap value (rw c.unwrap_or.ensures (plus_passed c.args.radix c.args.s c.strip_prefix.result c.strip_prefix.ensures.cases).0)
