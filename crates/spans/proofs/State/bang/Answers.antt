-- `bang` makes the turn at an exclamation mark before a bracket.
-- Assumes nothing.
use mathlib.Core.Path.{refl, sym, ◌∙◌}
use Prim.Native.Nat.{◌+◌}
use native.Mathlib.Omega.{arith}
use Rattle.spans.proofs.Search.{known_bracket, link_found, unlinked}
use Rattle.spans.proofs.Marks.{bang_none, bang_some}
use Rattle.spans.proofs.Made.{made_as, push_made, image_made}
use Rattle.spans.proofs.State.bang.Goals as goal

pub returns-in_default : goal.returns-in_default
returns-in_default c = (
  λ e text len.
      let a = c.args in
      made_as (bang_none a.line.now a.self text c.requires.1.0 (unlinked a.line.now (a.self.i + 1 + 1) (sym c.in_default.is ∙ c.find_link.ensures.0))) c.push.ensures.0
      (push_made e.bold e.italic a.self a.out.now text _ _ 0 1 refl len c.push.ensures.1),
  known_bracket c.args.line.now (c.args.self.i + 1) _ c.requires.1.0.bracket c.find_link.ensures.1,
)

pub overflow_add-result : goal.overflow_add-result
overflow_add-result c = let a = c.args in omega (arith, (link_found a.line.now (a.self.i + 1 + 1) _ (sym c.in-Some.is ∙ c.find_link.ensures.0)).inside)

pub returns : goal.returns
returns c = (
  λ e text len.
      let a = c.args in
      let l = link_found a.line.now (a.self.i + 1 + 1) _ (sym c.in-Some.is ∙ c.find_link.ensures.0) in
      made_as (bang_some a.line.now a.self text c.requires.1.0 (l.close, l.last) l.is) refl
      (image_made e.bold e.italic a.self a.out.now text (l.close, l.last) _ len l.last_is),
  known_bracket c.args.line.now (c.args.self.i + 1) _ c.requires.1.0.bracket c.find_link.ensures.1,
)
