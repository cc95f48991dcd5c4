-- `markdown::shape::list_marker` meets its contract.
-- Assumes nothing.
use Rattle.markdown.specs.Shape.{MarkerAt}
use Rattle.markdown.proofs.ShapeLaws.{bullet_inside, bullet_is}
use mathlib.Core.Path.{sym, ◌∙◌, subst}
use Rattle.markdown.proofs.shape.list_marker.Goals as goal

pub marker_of-requires : goal.marker_of-requires
marker_of-requires c = bullet_inside _ _ c.requires.0 (sym c.is_bullet.ensures ∙ c.if-is_bullet.true)

pub returns-then-is_bullet : goal.returns-then-is_bullet
returns-then-is_bullet c =
    let m = c.marker_of.ensures in
    subst (MarkerAt c.args.line.now) (sym m.0) (bullet_is _ _ c.requires.0 (sym c.is_bullet.ensures ∙ c.if-is_bullet.true) _ m.1)

pub ordered_marker-requires : goal.ordered_marker-requires
ordered_marker-requires c = (c.requires.0, sym c.is_bullet.ensures ∙ c.if-is_bullet.false)
