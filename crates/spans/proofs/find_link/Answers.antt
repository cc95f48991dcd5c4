-- `find_link`: two searches that start after what is known of the line, and a test between them. The outer loop (`link`) and the one for `(` (`paren`) make one turn.
-- Assumes nothing.
use mathlib.Core.Path.{sym, ◌∙◌}
use Rattle.spans.proofs.Search.{clear_step, end_noted, no_close, no_paren, no_end, closed}
use Rattle.spans.proofs.find_link.Goals as goal

pub close-preserved : goal.close-preserved
close-preserved c = (clear_step 93 _ _ _ c.close.invariant.0 c.if-s-i.false c.if-s-i-eq93.false, c.close.invariant.1)

pub end-preserved : goal.end-preserved
end-preserved c = (clear_step 41 _ _ _ c.end.invariant.0 c.if-s-j.false c.if-s-j-eq41.false, c.end.invariant.1)

pub returns-then-s-i : goal.returns-then-s-i
returns-then-s-i c =
    let v = c.close.invariant in
    (no_close _ _ _ v.0 c.if-s-i.true, record { close = v.0.same; end = v.1.end; tick = v.1.tick })

pub returns-then-byte-ne40 : goal.returns-then-byte-ne40
returns-then-byte-ne40 c =
    let v = c.close.invariant in (
      no_paren _ _ _ v.0 c.if-s-i.false c.if-s-i-eq93.true (λ e. c.if-byte-ne40.true (c.byte.ensures ∙ e)),
      record { close = v.0.same; end = v.1.end; tick = v.1.tick },
    )

pub returns-then-s-j : goal.returns-then-s-j
returns-then-s-j c =
    let v = c.close.invariant.0 in
    let e = c.end.invariant in (
      no_end _ _ _ v c.if-s-i.false c.if-s-i-eq93.true (sym c.byte.ensures ∙ c.if-byte-ne40.false) _ e.0 c.if-s-j.true,
      record { close = e.1.close; end = end_noted _ _ _ _ v c.if-s-i.false c.if-s-i-eq93.true e.0; tick = e.1.tick },
    )

pub returns-then-s-j-eq41 : goal.returns-then-s-j-eq41
returns-then-s-j-eq41 c =
    let v = c.close.invariant.0 in
    let e = c.end.invariant in (
      closed _ _ _ v c.if-s-i.false c.if-s-i-eq93.true (sym c.byte.ensures ∙ c.if-byte-ne40.false) _ e.0 c.if-s-j.false c.if-s-j-eq41.true,
      record { close = e.1.close; end = end_noted _ _ _ _ v c.if-s-i.false c.if-s-i-eq93.true e.0; tick = e.1.tick },
    )
