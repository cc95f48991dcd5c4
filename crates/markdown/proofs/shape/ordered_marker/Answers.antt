-- `markdown::shape::ordered_marker` meets its contract.
-- Assumes nothing.
use Rattle.markdown.specs.Shape.{MarkerAt}
use Rattle.markdown.proofs.ShapeLaws.{digits_in, ordinal_none, ordinal_many, ordinal_other, ordinal_inside, ordinal_is}
use native.Mathlib.Omega.{arith}
use mathlib.Core.Path.{sym, ◌∙◌, subst}
use Rattle.markdown.proofs.shape.ordered_marker.Goals as goal

pub returns-then-stop-at : goal.returns-then-stop-at
returns-then-stop-at c = ordinal_none _ _ c.requires.0 c.requires.1 _ c.run_end-stop.ensures c.if-stop-at.true

pub returns-then-stop-at-gt9 : goal.returns-then-stop-at-gt9
returns-then-stop-at-gt9 c = ordinal_many _ _ c.requires.0 c.requires.1 _ c.run_end-stop.ensures c.if-stop-at-gt9.true

pub returns-then-not-starts_with : goal.returns-then-not-starts_with
returns-then-not-starts_with c = ordinal_other _ _ c.requires.0 c.requires.1 _ c.run_end-stop.ensures (sym c.starts_with.ensures ∙ c.if-not-starts_with.true)

pub overflow_add-stop : goal.overflow_add-stop
overflow_add-stop c = omega (arith, digits_in _ _ c.requires.0 c.requires.1 _ c.run_end-stop.ensures)

pub marker_of-requires : goal.marker_of-requires
marker_of-requires c = ordinal_inside _ _ c.requires.0 c.requires.1 _ c.run_end-stop.ensures (sym c.starts_with.ensures ∙ c.if-not-starts_with.false)

pub returns : goal.returns
returns c =
    let m = c.marker_of.ensures in
    subst (MarkerAt c.args.line.now) (sym m.0)
    (ordinal_is _ _ c.requires.0 c.requires.1 _ c.run_end-stop.ensures (sym c.starts_with.ensures ∙ c.if-not-starts_with.false) _ c.if-stop-at.false
    c.if-stop-at-gt9.false m.1)
