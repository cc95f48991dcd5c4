-- `run` meets its contract: what is left of the text makes the same state, and the output does not end a line.
-- Assumes nothing.
use mathlib.Core.Path.{◌≡◌, refl, sym, ap, ◌∙◌}
use native.Mathlib.Omega.{arith}
use Prim.Native.Nat.{ℕ, ◌+◌, ◌-◌, ◌*◌, ◌≤◌, ◌<◌}
use mathlib.Core.Bool.{Bool, true, false}
use mathlib.Core.List.{List}
use lib.ListN.{length, get_or, drop}
use Rattle.text.specs.Utf8.{utf8, chars}
use Rattle.text.proofs.Laws.{utf8_size}
use Rattle.reference.specs.Unescape.{unescape}
use Rattle.html.specs.State.{State, new, with_pre, put, put_all, spaced, blank, paused}
use Rattle.html.specs.Struct.{pending}
use Rattle.html.specs.Pen.{pen_state, Unescaped, Inking}
use Rattle.html.specs.declared.words.Pen.{Pen}
use Rattle.html.specs.declared.words.Piece.{Piece}
use Rattle.html.proofs.TextLaws.{ink_room, ink_pause, ink_write, behind_put, behind_pause, piece, piece_ascii, plain_ascii, plain_not_and, plain_not_blank, plain_write}
use Rattle.html.proofs.TextLaws.{other_outside, other_blank, special_not_blank, bare_len, special_two}
use borrow.Author.Rules.{rules}
use Rattle.html.proofs.words.run.Invariants.{Running}
use Rattle.html.proofs.words.run.Goals as goal
use Rattle.html.proofs.words.run.Goals.{At-loop-i}

-- ---- what holds at the loop's head, and what a character more leaves of it
abbrev Head : Type 0
Head = At-loop-i

abbrev raw_of : Head → List ℕ
raw_of c = c.args.raw.now

abbrev pre_of : Head → Bool
pre_of c = c.args.pre

abbrev at_of : Head → ℕ
at_of c = get_or (raw_of c) c.loop-i.i 0

-- a state to ask with, and the room that there is
abbrev any : Head → State
any c = with_pre (pre_of c) new

abbrev most : Head → ℕ
most c = c.args.pen.len + pending c.args.pen.space + 2 * (length (raw_of c) - c.args.from)

abbrev ended : Head → State
ended c = put_all c.args.pen.first (unescape 0 (chars (drop c.args.from (raw_of c)))) (pen_state (any c) c.args.pen c.args.out.now)

held : (c : Head) → Inking (raw_of c) (any c) (ended c) (most c) c.loop-i.out c.loop-i.p c.loop-i.i
held c = c.loop-i.invariant.0 (any c) (ended c) (most c) refl (record { same = refl; valid = c.requires.from_in_bounds.1.0; bound = c.requires.from_in_bounds.0; room = omega arith })

roomy : (c : Head) (u : Piece) → Unescaped (raw_of c) c.loop-i.i u → c.loop-i.p.len + 2 + length (utf8 u.code) ≤ length c.loop-i.out
roomy c u v =
    omega (arith, ink_room (raw_of c) (any c) (ended c) (most c) c.loop-i.out c.loop-i.p c.loop-i.i (held c) u v, c.loop-i.invariant.1.1.0, c.requires.from_in_bounds.1.1)

Now : (c : Head) → List ℕ → Pen → ℕ → Type 0
Now c o r j = Running (raw_of c) (pre_of c) c.args.from c.args.out.now c.args.pen o r j

waits : (c : Head) (u : Piece) → Unescaped (raw_of c) c.loop-i.i u → (r : Pen) → blank (pre_of c) u.code ≡ true
    → ((s : State) → pen_state s r c.loop-i.out ≡ paused (pen_state s c.loop-i.p c.loop-i.out)) → r.first ≡ c.loop-i.p.first → Now c c.loop-i.out r u.next
unfolding Now
waits c u v r b e f = (
  λ s t m h k.
      ink_pause (raw_of c) s t m c.loop-i.out c.loop-i.p c.loop-i.i (c.loop-i.invariant.0 s t m h k) u v r (ap (λ (x : Bool). blank x u.code) h ∙ b) (e s) f,
  (behind_pause (pre_of c) (any c) c.loop-i.p r c.loop-i.out c.loop-i.invariant.1.0 (e (any c)) f, (c.loop-i.invariant.1.1.0, omega (arith, c.loop-i.invariant.1.1.1, v.size))),
)

wrote : (c : Head) (u : Piece) → Unescaped (raw_of c) c.loop-i.i u → (r : Pen) (o : List ℕ) → blank (pre_of c) u.code ≡ false
    → ((s : State) → s.pre ≡ pre_of c → pen_state s r o ≡ put c.loop-i.p.first u.code (spaced (pen_state s c.loop-i.p c.loop-i.out))) → r.first ≡ false
    → length o ≡ length c.loop-i.out → Now c o r u.next
unfolding Now
wrote c u v r o b e f n = (
  λ s t m h k.
      ink_write (raw_of c) s t m c.loop-i.out c.loop-i.p c.loop-i.i (c.loop-i.invariant.0 s t m h k) u v r o (ap (λ (x : Bool). blank x u.code) h ∙ b) (e s h) f,
  (behind_put (pre_of c) u.code c.loop-i.p.first (any c) _ r o b (e (any c) refl) f, (n ∙ c.loop-i.invariant.1.1.0, omega (arith, c.loop-i.invariant.1.1.1, v.size))),
)

-- ---- the ASCII character there
abbrev Here : Head → Type 0
Here c = Unescaped (raw_of c) c.loop-i.i (piece (at_of c) (c.loop-i.i + 1))

ascii : (c : Head) → c.loop-i.i < length (raw_of c) → at_of c < 0x80 → (at_of c ≡ 38 → ⊥) → Here c
ascii c l a n = piece_ascii (raw_of c) c.loop-i.i l (held c).valid a n

pub bare-p-requires : goal.bare-p-requires
bare-p-requires c =
    let h = (goal.at.bare-p-requires c).At-loop-i in
    let b = at_of h in
    let y = sym c.plain.ensures ∙ c.if-plain.true in
    let a = plain_ascii b (pre_of h) y in
    (omega (arith, roomy h _ (ascii h c.loop-i-test.true a (plain_not_and b (pre_of h) y)), (utf8_size b).0), a)

pub loop-i-preserved-then-plain : goal.loop-i-preserved-then-plain
unfolding Now
loop-i-preserved-then-plain c =
    let h = (goal.at.loop-i-preserved-then-plain c).At-loop-i in
    let b = at_of h in
    let y = sym c.plain.ensures ∙ c.if-plain.true in
    wrote h _ (ascii h c.loop-i-test.true (plain_ascii b (pre_of h) y) (plain_not_and b (pre_of h) y)) c.bare-p.result _ (plain_not_blank b (pre_of h) y)
    (λ s q. c.bare-p.ensures.0 s ∙ plain_write b (pre_of h) y s q c.loop-i.p c.loop-i.out c.loop-i.invariant.1.0) c.bare-p.ensures.1 (search rules)

pub above_ascii-v-requires : goal.above_ascii-v-requires
above_ascii-v-requires c =
    let h = (goal.at.above_ascii-v-requires c).At-loop-i in
    (c.loop-i-test.true, ((held h).valid, c.if-b-ge128.true))

pub pause-p-requires : goal.pause-p-requires
pause-p-requires c =
    let h = (goal.at.pause-p-requires c).At-loop-i in
    omega (arith, roomy h c.above_ascii-v.result c.above_ascii-v.ensures.0)

pub loop-i-smaller-then-blank : goal.loop-i-smaller-then-blank
loop-i-smaller-then-blank c =
    let v = c.above_ascii-v.ensures.0 in
    omega (arith, (utf8_size c.above_ascii-v.result.code).0, v.size, v.bound)

pub loop-i-preserved-then-blank : goal.loop-i-preserved-then-blank
unfolding Now
loop-i-preserved-then-blank c =
    let h = (goal.at.loop-i-preserved-then-blank c).At-loop-i in
    waits h c.above_ascii-v.result c.above_ascii-v.ensures.0 c.pause-p.result (sym c.blank.ensures ∙ c.if-blank.true) c.pause-p.ensures.0 c.pause-p.ensures.1

pub high-p-requires : goal.high-p-requires
high-p-requires c =
    let h = (goal.at.high-p-requires c).At-loop-i in
    let v = c.above_ascii-v.ensures in
    (omega (arith, roomy h c.above_ascii-v.result v.0, ap (λ (x : ℕ). length (utf8 x)) v.1.0), (c.loop-i-test.true, ((held h).valid, c.if-b-ge128.true)))

pub loop-i-smaller-then-b-ge128 : goal.loop-i-smaller-then-b-ge128
loop-i-smaller-then-b-ge128 c =
    let v = c.above_ascii-v.ensures.0 in
    omega (arith, (utf8_size c.above_ascii-v.result.code).0, v.size, v.bound)

pub loop-i-preserved-then-b-ge128 : goal.loop-i-preserved-then-b-ge128
unfolding Now
loop-i-preserved-then-b-ge128 c =
    let h = (goal.at.loop-i-preserved-then-b-ge128 c).At-loop-i in
    let v = c.above_ascii-v.ensures in
    wrote h c.above_ascii-v.result v.0 c.high-p.result _ (sym c.blank.ensures ∙ c.if-blank.false)
    (λ s q. c.high-p.ensures.0 s ∙ ap (λ (x : ℕ). put c.loop-i.p.first x (spaced (pen_state s c.loop-i.p c.loop-i.out))) (sym v.1.0))
    c.high-p.ensures.1 (search rules)

pub bare-q-requires : goal.bare-q-requires
bare-q-requires c =
    let h = (goal.at.bare-q-requires c).At-loop-i in
    (omega (arith, roomy h _ (ascii h c.loop-i-test.true c.if-b-ge128.false c.if-b-eq38.false), (utf8_size (at_of h)).0), omega arith)

pub bare-p-requires-then-special : goal.bare-p-requires-then-special
bare-p-requires-then-special c =
    let h = (goal.at.bare-p-requires-then-special c).At-loop-i in
    let k = bare_len (any h) c.loop-i.p c.bare-q.result c.loop-i.out _ (c.bare-q.ensures.0 (any h)) in
    (omega (arith, k, (held h).room, c.loop-i-test.true, c.loop-i.invariant.1.1.0, c.requires.from_in_bounds.1.1), c.if-b-ge128.false)

pub loop-i-preserved-then-special : goal.loop-i-preserved-then-special
unfolding Now
loop-i-preserved-then-special c =
    let h = (goal.at.loop-i-preserved-then-special c).At-loop-i in
    let z = sym c.special.ensures ∙ c.if-special.true in
    let n = (other_outside (at_of h) (pre_of h) (sym c.plain.ensures ∙ c.if-plain.false) c.if-b-ge128.false c.if-b-eq38.false).0 in
    wrote h _ (ascii h c.loop-i-test.true c.if-b-ge128.false c.if-b-eq38.false) c.bare-p-then-special.result _ (special_not_blank (at_of h) z (pre_of h))
    (λ s e.
    let second = c.bare-p-then-special.ensures.0 s in
    special_two s c.loop-i.p c.bare-q.result c.loop-i.out _ (c.bare-q.ensures.0 s) (at_of h) z (e ∙ n) c.bare-p-then-special.result _ second)
    c.bare-p-then-special.ensures.1 (search rules)

pub pause-p-requires-in-loop-i : goal.pause-p-requires-in-loop-i
pause-p-requires-in-loop-i c =
    let h = (goal.at.pause-p-requires-in-loop-i c).At-loop-i in
    omega (arith, roomy h _ (ascii h c.loop-i-test.true c.if-b-ge128.false c.if-b-eq38.false))

pub loop-i-preserved : goal.loop-i-preserved
unfolding Now
loop-i-preserved c =
    let h = (goal.at.loop-i-preserved c).At-loop-i in
    let b = other_blank (at_of h) (pre_of h) (sym c.plain.ensures ∙ c.if-plain.false) c.if-b-ge128.false c.if-b-eq38.false (sym c.special.ensures ∙ c.if-special.false) in
    waits h _ (ascii h c.loop-i-test.true c.if-b-ge128.false c.if-b-eq38.false) c.pause-p-in-loop-i.result b c.pause-p-in-loop-i.ensures.0 c.pause-p-in-loop-i.ensures.1
