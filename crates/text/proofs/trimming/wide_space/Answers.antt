-- `text::wide_space` meets its contract, by the first byte.
-- Assumes nothing.
use native.Mathlib.Omega.{arith}
use mathlib.Core.Bool.{true, ◌&&◌}
use mathlib.Core.Path.{◌≡◌, sym, ap, ◌∙◌}
use Prim.Native.Nat.{◌+◌, ◌-◌, ◌≤◌}
use lib.ListN.{get_or, drop}
use Rattle.std.specs.Prelude.{if◌then◌else◌}
use Rattle.text.specs.Chars.{is_space}
use Rattle.text.specs.Utf8.{tail, join, char, some_size}
use Rattle.text.proofs.Sizes.{size_if}
use Rattle.text.specs.Trim.{wide_space}
use Rattle.text.proofs.Tests.{and_true, within_true, within_not}
use Rattle.text.proofs.WideLaws.{wide_none_at, wide_two_at, wide_three_at}
use Rattle.text.proofs.trimming.wide_space.Goals as goal
use Rattle.text.proofs.trimming.wide_space.Goals.{After-is_tail-2, Else-not-is_tail}

-- where two more bytes are read: whether both are tails, and what the character there is
tails : (c : After-is_tail-2) → c.is_tail.result && c.is_tail-2.result ≡ tail (get_or c.args.s.now (c.args.i + 1) 0) && tail (get_or c.args.s.now (c.args.i + 2) 0)
tails c = rw (c.is_tail.ensures, c.is_tail-2.ensures, c.byte-b-2.ensures, c.byte-c.ensures)

both : (c : Else-not-is_tail) → (tail c.byte-b-2.result ≡ true) × (tail c.byte-c.result ≡ true)
both c =
    let p = and_true c.is_tail.result c.is_tail-2.result c.if-not-is_tail.false in
    (sym c.is_tail.ensures ∙ p.0, sym c.is_tail-2.ensures ∙ p.1)

in_three : (c : After-is_tail-2) → (0xE1 ≤ c.from-a.result) × (c.from-a.result ≤ 0xE3)
in_three c = within_true 0xE1 0xE3 c.from-a.result (sym c.within.ensures ∙ c.if-not-within.false)

three : (c : After-is_tail-2) → wide_space (char (drop c.args.i c.args.s.now))
    ≡ (if tail (get_or c.args.s.now (c.args.i + 1) 0) && tail (get_or c.args.s.now (c.args.i + 2) 0) then if is_space
    (join (join (get_or c.args.s.now c.args.i 0 - 0xE0) (get_or c.args.s.now (c.args.i + 1) 0)) (get_or c.args.s.now (c.args.i + 2) 0)) then 3 else 0 else 0)
three c = wide_three_at c.args.s.now c.args.i (omega arith) (omega (arith, c.from-a.ensures, (in_three c).0)) (omega (arith, c.from-a.ensures, (in_three c).1))

pub returns-then-a-eq194 : goal.returns-then-a-eq194
returns-then-a-eq194 c =
    c.then_some.ensures ∙ size_if _ 2 (omega arith)
    ∙ ap some_size (rw c.byte-b.ensures (sym (wide_two_at c.args.s.now c.args.i (omega arith) (sym c.from-a.ensures ∙ c.if-a-eq194.true))))

pub returns-then-not-within : goal.returns-then-not-within
returns-then-not-within c =
    sym (ap some_size (wide_none_at c.args.s.now c.args.i (omega arith) (λ e. c.if-a-eq194.false (c.from-a.ensures ∙ e))
    (rw c.from-a.ensures at (within_not 0xE1 0xE3 c.from-a.result (sym c.within.ensures ∙ c.if-not-within.true)))))

pub returns-then-not-is_tail : goal.returns-then-not-is_tail
returns-then-not-is_tail c =
    let here = (goal.at.returns-then-not-is_tail c).After-is_tail-2 in
    sym (ap some_size {y = 0} (three here ∙ rw (sym (tails here) ∙ c.if-not-is_tail.true)))

pub returns : goal.returns
returns c =
    c.then_some-2.ensures ∙ size_if _ 3 (omega arith)
    ∙ ap some_size (rw (c.is_space.ensures, c.join-2.ensures, c.join.ensures, c.from-a.ensures, c.byte-b-2.ensures, c.byte-c.ensures)
    (sym (three (goal.at.returns c).After-is_tail-2 ∙ rw (sym (tails (goal.at.returns c).After-is_tail-2) ∙ c.if-not-is_tail.false))))
