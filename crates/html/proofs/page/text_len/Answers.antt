-- `text_len` meets its contract.
-- Assumes nothing.
use mathlib.Core.Path.{◌∙◌}
use Rattle.html.proofs.TurnLaws.{end_of}
use Rattle.html.proofs.page.text_len.Goals as goal

pub returns : goal.returns
returns c = c.unwrap_or.ensures ∙ end_of c.args.page.now 60 c.find.result c.find.ensures
