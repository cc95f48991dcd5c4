-- `Converter::code` meets its contract.
-- Assumes nothing.
use mathlib.Core.Path.{◌∙◌}
use Rattle.html.specs.Struct.{state_of}
use Rattle.html.proofs.StepLaws.{code_pre, code_out}
use Rattle.html.proofs.converter.Converter.code.Goals as goal

pub returns-then-self : goal.returns-then-self
unfolding state_of
returns-then-self c = code_pre _ _ c.if-self.true

pub returns : goal.returns
unfolding state_of
returns c = c.marks.ensures ∙ code_out _ _ c.if-self.false
