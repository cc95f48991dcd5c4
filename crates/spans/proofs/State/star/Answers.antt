-- `star` makes the turn at a star.
-- Assumes nothing.
use mathlib.Core.Path.{refl, sym, ◌∙◌}
use Prim.Native.Nat.{◌+◌}
use native.Mathlib.Nat.{add-zero}
use Rattle.spans.proofs.Marks.{star_two, star_one}
use Rattle.spans.proofs.Made.{made_as, toggle_made}
use Rattle.spans.proofs.State.star.Goals as goal

pub returns-then-byte-ne42 : goal.returns-then-byte-ne42
returns-then-byte-ne42 c = λ text len.
    let a = c.args in
    let f = c.flush-f in
    made_as (star_one a.line.now a.self text c.requires.1 (rw c.byte.ensures at c.if-byte-ne42.true)) refl
    (toggle_made a.around.bold a.around.italic a.self a.out.now text len _ f.ensures.1 f.result _ 0 _ _ _ f.ensures.0 c.moved.ensures (sym (add-zero (a.self.i + 1))))

pub returns : goal.returns
returns c = λ text len.
    let a = c.args in
    let f = c.flush-f in
    made_as (star_two a.line.now a.self text c.requires.1 (sym c.byte.ensures ∙ c.if-byte-ne42.false)) refl
    (toggle_made a.around.bold a.around.italic a.self a.out.now text len _ f.ensures.1 f.result _ 1 _ _ _ f.ensures.0 c.moved-2.ensures refl)
