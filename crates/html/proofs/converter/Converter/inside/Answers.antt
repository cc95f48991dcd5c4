-- `Converter::inside` meets its contract.
-- Assumes nothing.
use mathlib.Core.Path.{ap, ap₂, ◌∙◌}
use Rattle.html.specs.Struct.{state_of}
use Rattle.html.specs.Page.{name_of, element}
use Rattle.html.proofs.SkipLaws.{inside_is}
use Rattle.html.proofs.converter.Converter.inside.Goals as goal

pub returns : goal.returns
returns c =
    let a = c.args in
    let s = state_of a.self a.out.now in
    c.element.ensures
    ∙ ap₂ (λ b l. element b (name_of l) s) c.is_some.ensures (ap (λ r. r.now) c.unwrap_or.ensures)
    ∙ inside_is a.inner s c.strip_prefix-rest.result c.strip_prefix-rest.ensures.cases
