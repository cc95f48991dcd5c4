-- The proof of the cycle of calls {spans_in}. The measure is the line's length: a label is shorter than its line.
-- Assumes nothing.
use mathlib.Core.Path.{refl, sym, ap, subst, ◌∙◌}
use Prim.Native.Nat.{◌+◌, ◌-◌}
use native.Mathlib.Omega.{arith}
use lib.ListN.{take, drop, length-take, length-drop}
use Rattle.spans.specs.declared.Emphasis.{Emphasis}
use Rattle.spans.specs.declared.State.{State}
use Rattle.spans.proofs.Search.{known_none, known_on, link_found, unlinked}
use Rattle.spans.proofs.Marks.{open_none}
use Rattle.spans.proofs.Made.{same_state, made_as, push_made}
use Rattle.spans.proofs.Loop.{Walking, start, ready, finish, label_made, label_few, bounds, advanced, pushed_on}
use Rattle.spans.proofs.+spans_in.Goals as goal

pub loop-w-init : goal.loop-w-init
loop-w-init t c =
    let a = c.args in
    let w = c.default.ensures in
    let n = c.default-seen.ensures in (
      subst (λ (z : State). Walking a.around.bold a.around.italic a.line.now a.out.now a.at z a.out.now)
          (sym (same_state w.0 refl w.1.1.0 w.1.1.1.0 w.1.1.1.1.0 w.1.1.1.1.1))
          (start a.around.bold a.around.italic a.line.now a.out.now a.at),
      known_none _ _ _ n.0 n.1.0 n.1.1,
    )

pub loop-w-preserved-then-is_plain : goal.loop-w-preserved-then-is_plain
loop-w-preserved-then-is_plain t c =
    let a = c.args in
    let l = c.loop-w in
    let p = rw c.if-is_plain.true at c.is_plain.ensures in (
      pushed_on a.around.bold a.around.italic a.line.now a.out.now a.at l.w l.out l.invariant.0 _ p c.plain_end.ensures c.push_all-w.ensures.0 c.push_all-w.ensures.1,
      known_on _ _ _ _ (omega (arith, ap (λ (z : State). z.i) c.push_all-w.ensures.0)) l.invariant.1,
    )

pub turn-w-requires : goal.turn-w-requires
turn-w-requires t c =
    let a = c.args in
    let l = c.loop-w in
    let p = rw c.if-is_plain.false at c.is_plain.ensures in
    (ready a.around.bold a.around.italic a.line.now a.out.now a.at l.w l.out l.invariant.0 c.requires c.loop-w-test.true, (p, (c.if-line-i-ne91.true, l.invariant.1)))

pub loop-w-preserved-then-line-i-ne91 : goal.loop-w-preserved-then-line-i-ne91
loop-w-preserved-then-line-i-ne91 t c =
    let a = c.args in
    let l = c.loop-w in
    let next = advanced a.around.bold a.around.italic a.line.now a.out.now a.at l.w l.out l.invariant.0 c.loop-w-test.true (c.turn-w.ensures.0 l.invariant.0.text l.invariant.0.len) in
    (next.0, known_on _ _ _ _ (omega (arith, next.1)) c.turn-w.ensures.1)

pub loop-w-preserved-in_default : goal.loop-w-preserved-in_default
loop-w-preserved-in_default t c =
    let a = c.args in
    let l = c.loop-w in (
      (advanced a.around.bold a.around.italic a.line.now a.out.now a.at l.w l.out l.invariant.0 c.loop-w-test.true
          (made_as (open_none a.line.now l.w l.invariant.0.text c.if-line-i-ne91.false (unlinked a.line.now (l.w.i + 1) (sym c.in_default.is ∙ c.find_link.ensures.0))) c.push-w.ensures.0
          (push_made a.around.bold a.around.italic l.w l.out l.invariant.0.text _ _ 0 1 refl l.invariant.0.len c.push-w.ensures.1))).0,
      known_on _ _ _ _ (omega (arith, ap (λ (z : State). z.i) c.push-w.ensures.0)) c.find_link.ensures.1,
    )

pub slice_bounds-spans_in-end : goal.slice_bounds-spans_in-end
slice_bounds-spans_in-end t c =
    let a = c.args in
    let l = c.loop-w in
    let k = link_found a.line.now (l.w.i + 1) _ (sym c.in-Some.is ∙ c.find_link.ensures.0) in
    omega (arith, k.close_is, k.before, k.inside)

pub overflow_add-link : goal.overflow_add-link
overflow_add-link t c =
    let a = c.args in
    let l = c.loop-w in
    let k = link_found a.line.now (l.w.i + 1) _ (sym c.in-Some.is ∙ c.find_link.ensures.0) in
    omega (arith, k.inside, c.requires)

pub join_label-w-requires : goal.join_label-w-requires
join_label-w-requires t c =
    let a = c.args in
    let l = c.loop-w in
    let k = link_found a.line.now (l.w.i + 1) _ (sym c.in-Some.is ∙ c.find_link.ensures.0) in
    let from = l.w.i + 1 in
    let x = c.in-Some.link.close in
    omega (
      arith,
      bounds a.around.bold a.around.italic a.line.now a.out.now a.at l.w l.out l.invariant.0 c.requires,
      c.requires,
      c.spans_in-label.ensures.1.0,
      label_few (take (x - from) (drop from a.line.now)),
      length-take (x - from) (drop from a.line.now),
      length-drop from a.line.now,
    )

pub loop-w-preserved : goal.loop-w-preserved
loop-w-preserved t c =
    let a = c.args in
    let l = c.loop-w in
    let k = link_found a.line.now (l.w.i + 1) _ (sym c.in-Some.is ∙ c.find_link.ensures.0) in
    let next =
    advanced a.around.bold a.around.italic a.line.now a.out.now a.at l.w l.out l.invariant.0 c.loop-w-test.true
    (label_made a.around.bold a.around.italic l.w l.out l.invariant.0.text l.invariant.0.len a.line.now _ _ c.if-line-i-ne91.false k _ _ _
    (ap (λ (e : Emphasis). e.bold) c.emphasis.ensures) (ap (λ (e : Emphasis). e.italic) c.emphasis.ensures) c.text_end.ensures
    c.spans_in-label.result _ c.spans_in-label.ensures.0 c.spans_in-label.ensures.1.0 c.spans_in-label.ensures.1.1 _ _ c.join_label-w.ensures.0 c.join_label-w.ensures.1)
    in
    (next.0, known_on _ _ _ _ (omega (arith, next.1)) c.find_link.ensures.1)

pub flush-f-requires : goal.flush-f-requires
flush-f-requires t c =
    let a = c.args in
    let l = c.loop-w in
    omega (arith, bounds a.around.bold a.around.italic a.line.now a.out.now a.at l.w l.out l.invariant.0 c.requires)

pub returns : goal.returns
returns t c =
    let a = c.args in
    let l = c.loop-w in
    finish a.around.bold a.around.italic a.line.now a.out.now a.at l.w l.out l.invariant.0 c.loop-w-test.false c.flush-f.result _ c.flush-f.ensures.0 c.flush-f.ensures.1
