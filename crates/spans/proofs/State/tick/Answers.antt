-- `tick` makes the turn at a backtick.
-- Assumes nothing.
use mathlib.Core.Path.{refl, sym, ◌∙◌}
use native.Mathlib.Omega.{arith}
use Rattle.spans.proofs.Search.{found_at, missed}
use Rattle.spans.proofs.Marks.{tick_none}
use Rattle.spans.proofs.Made.{made_as, push_made, tick_made}
use Rattle.spans.proofs.State.tick.Goals as goal

pub returns-in_default : goal.returns-in_default
returns-in_default c = (
  λ text len.
      let a = c.args in
      made_as (tick_none a.line.now a.self text c.requires.1.0 (missed 96 _ _ (sym c.find.ensures.0 ∙ c.in_default.is))) c.push.ensures.0
      (push_made a.around.bold a.around.italic a.self a.out.now text _ _ 0 1 refl len c.push.ensures.1),
  c.find.ensures.1,
)

pub slice_bounds-put_code-count : goal.slice_bounds-put_code-count
slice_bounds-put_code-count c = let l = (found_at 96 c.args.line.now _ _ (sym c.find.ensures.0 ∙ c.in-Some.is)) in omega (arith, l.place, l.inside)

pub slice_bounds-put_code-start : goal.slice_bounds-put_code-start
slice_bounds-put_code-start c = let l = (found_at 96 c.args.line.now _ _ (sym c.find.ensures.0 ∙ c.in-Some.is)) in omega (arith, l.place, l.inside)

pub slice_bounds-put_code-end : goal.slice_bounds-put_code-end
slice_bounds-put_code-end c = let l = (found_at 96 c.args.line.now _ _ (sym c.find.ensures.0 ∙ c.in-Some.is)) in omega (arith, l.place, l.inside)

pub returns : goal.returns
returns c = (
  λ text len.
      let a = c.args in
      let f = c.flush-f in
      tick_made a.around.bold a.around.italic a.self a.out.now text len _ f.ensures.1 a.line.now _ c.requires.1.0 (found_at 96 c.args.line.now _ _ (sym c.find.ensures.0 ∙ c.in-Some.is))
      f.result _ _ f.ensures.0 c.put_code.ensures.0 c.put_code.ensures.1,
  c.find.ensures.1,
)
