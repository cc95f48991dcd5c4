-- `escape` makes the turn at a backslash.
-- Assumes nothing.
use mathlib.Core.Path.{refl}
use Rattle.spans.proofs.Marks.{escape_next, escape_last}
use Rattle.spans.proofs.Made.{made_as, push_made}
use Rattle.spans.proofs.State.escape.Goals as goal

pub returns-then-j-line : goal.returns-then-j-line
returns-then-j-line c = λ e text len.
    let a = c.args in
    made_as (escape_next a.line.now a.self text c.requires.1 c.if-j-line.true) c.push.ensures.0
    (push_made e.bold e.italic a.self a.out.now text _ _ 1 2 refl len c.push.ensures.1)

pub returns : goal.returns
returns c = λ e text len.
    let a = c.args in
    made_as (escape_last a.line.now a.self text c.requires.1 c.if-j-line.false) c.push-2.ensures.0
    (push_made e.bold e.italic a.self a.out.now text _ _ 0 1 refl len c.push-2.ensures.1)
