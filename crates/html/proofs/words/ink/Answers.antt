-- `ink` meets its contract: what is left of the text makes the same state.
-- Assumes nothing.
use mathlib.Core.Path.{◌≡◌, refl, sym, ap, ◌∙◌}
use native.Mathlib.Omega.{arith}
use Prim.Native.Nat.{ℕ, ◌+◌, ◌*◌, ◌≤◌}
use mathlib.Core.Bool.{Bool, false}
use mathlib.Core.List.{List}
use lib.ListN.{length}
use Rattle.text.specs.Utf8.{utf8, chars}
use Rattle.text.proofs.Laws.{utf8_size}
use Rattle.reference.specs.Unescape.{unescape}
use Rattle.html.specs.State.{State, new, with_pre, put, spaced, blank, put_all}
use Rattle.html.specs.Pen.{pen_state, Unescaped, Inking}
use Rattle.html.specs.declared.words.Pen.{Pen}
use Rattle.html.specs.declared.words.Piece.{Piece}
use Rattle.html.proofs.TextLaws.{ink_room, ink_pause, ink_blanks, blank_out, ink_write, ink_done, behind_put}
use borrow.Author.Rules.{rules}
use Rattle.html.proofs.words.ink.Goals as goal
use Rattle.html.proofs.words.ink.Goals.{At-loop-i}

-- ---- what holds at the loop's head, and what a character more leaves of it
abbrev Head : Type 0
Head = At-loop-i

abbrev raw_of : Head → List ℕ
raw_of c = c.args.raw.now

abbrev pre_of : Head → Bool
pre_of c = c.args.pre

abbrev any : Head → State
any c = with_pre (pre_of c) new

-- what the whole text makes of a state, and the room that there is
abbrev made : Head → State → State
made c s = put_all c.args.pen.first (unescape 0 (chars (raw_of c))) (pen_state s c.args.pen c.args.out.now)

abbrev most : Head → ℕ
most c = c.args.pen.len + 1 + 2 * length (raw_of c)

roomy : (c : Head) (u : Piece) → Unescaped (raw_of c) c.loop-i.i u → c.loop-i.p.len + 2 + length (utf8 u.code) ≤ length c.loop-i.out
roomy c u v =
    omega (arith, ink_room (raw_of c) (any c) (made c (any c)) (most c) c.loop-i.out c.loop-i.p c.loop-i.i (c.loop-i.invariant.0 (any c) refl) u v, c.loop-i.invariant.1, c.requires.0)

wrote : (c : Head) (u : Piece) → Unescaped (raw_of c) c.loop-i.i u → (r : Pen) (o : List ℕ) → blank (pre_of c) u.code ≡ false
    → ((s : State) → s.pre ≡ pre_of c → pen_state s r o ≡ put c.loop-i.p.first u.code (spaced (pen_state s c.loop-i.p c.loop-i.out))) → r.first ≡ false
    → (s : State) → s.pre ≡ pre_of c → Inking (raw_of c) s (made c s) (most c) o r u.next
wrote c u v r o b e f s h =
    ink_write (raw_of c) s (made c s) (most c) c.loop-i.out c.loop-i.p c.loop-i.i (c.loop-i.invariant.0 s h) u v r o (ap (λ (t : Bool). blank t u.code) h ∙ b) (e s h) f

pub unescaped-u-requires : goal.unescaped-u-requires
unescaped-u-requires c =
    let h = (goal.at.unescaped-u-requires c).At-loop-i in
    (c.loop-i-test.true, (c.loop-i.invariant.0 (any h) refl).valid)

pub pause-p-requires : goal.pause-p-requires
pause-p-requires c =
    let h = (goal.at.pause-p-requires c).At-loop-i in
    omega (arith, roomy h c.unescaped-u.result c.unescaped-u.ensures)

pub loop-i-smaller-then-blank : goal.loop-i-smaller-then-blank
loop-i-smaller-then-blank c =
    let v = c.unescaped-u.ensures in
    omega (arith, (utf8_size c.unescaped-u.result.code).0, v.size, v.bound, c.blanks_end-i.ensures.1.0, c.blanks_end-i.ensures.1.1)

pub loop-i-preserved-then-blank : goal.loop-i-preserved-then-blank
loop-i-preserved-then-blank c =
    let h = (goal.at.loop-i-preserved-then-blank c).At-loop-i in
    let u = c.unescaped-u.result in
    let b = sym c.blank.ensures ∙ c.if-blank.true in
    let e = c.pause-p.ensures in
    let z = c.blanks_end-i.ensures in (
      λ s q.
          ink_blanks (raw_of h) s (made h s) (most h) c.loop-i.out c.loop-i.p c.pause-p.result u.next c.blanks_end-i.result
          (ink_pause (raw_of h) s (made h s) (most h) c.loop-i.out c.loop-i.p c.loop-i.i (c.loop-i.invariant.0 s q) u c.unescaped-u.ensures
          c.pause-p.result (ap (λ (t : Bool). blank t u.code) q ∙ b) (e.0 s) e.1)
          (q ∙ blank_out (pre_of h) u.code b) (e.0 s) z.0 z.1.0 z.1.1,
      c.loop-i.invariant.1,
    )

pub write-w-requires : goal.write-w-requires
write-w-requires c =
    let h = (goal.at.write-w-requires c).At-loop-i in
    (omega (arith, roomy h c.unescaped-u.result c.unescaped-u.ensures), c.unescaped-u.ensures.scalar)

pub run-written-requires : goal.run-written-requires
run-written-requires c =
    let h = (goal.at.run-written-requires c).At-loop-i in
    let u = c.unescaped-u.result in
    let v = c.unescaped-u.ensures in
    let b = sym c.blank.ensures ∙ c.if-blank.false in
    let e = c.write-w.ensures in
    let k = wrote h u v c.write-w.result _ b e.0 e.1 (any h) refl in
    record {
      from_in_bounds = (v.bound, (v.valid, omega (arith, k.room, c.loop-i.invariant.1, c.requires.0)));
      behind = behind_put (pre_of h) u.code c.loop-i.p.first (any h) _ c.write-w.result _ b (e.0 (any h) refl) e.1;
    }

pub loop-i-smaller : goal.loop-i-smaller
loop-i-smaller c =
    let v = c.unescaped-u.ensures in
    omega (arith, (utf8_size c.unescaped-u.result.code).0, v.size, v.bound, c.run-written.ensures.1, c.loop-i-test.true)

pub loop-i-preserved : goal.loop-i-preserved
loop-i-preserved c =
    let h = (goal.at.loop-i-preserved c).At-loop-i in
    let u = c.unescaped-u.result in
    let v = c.unescaped-u.ensures in
    let b = sym c.blank.ensures ∙ c.if-blank.false in
    let e = c.write-w.ensures in
    (λ s q. c.run-written.ensures.0 s (made h s) (most h) q (wrote h u v c.write-w.result _ b e.0 e.1 s q), search rules)

pub returns : goal.returns
returns c = λ s h. ink_done _ s _ _ _ c.loop-i.p c.loop-i.i (c.loop-i.invariant.0 s h) c.loop-i-test.false
