-- `text::Four::size` meets its contract: by the range of the first byte.
-- Assumes nothing.
use mathlib.Core.Path.{ap, ◌∙◌}
use native.Mathlib.Omega.{arith}
use borrow.Author.Tests.{le-leb}
use Rattle.text.specs.Utf8.{char_of, some_size}
use Rattle.text.proofs.Sizes.{size_if}
use Rattle.text.proofs.Utf8.{two_bytes, three_bytes, four_bytes}
use Rattle.text.proofs.StartLaws.{after_tail, after_tail_2}
use Rattle.text.proofs.decoding.Four.size.Goals as goal

pub returns-then-a-le127 : goal.returns-then-a-le127
unfolding char_of
returns-then-a-le127 c = simp (le-leb c.args.self.a 0x7F c.if-a-le127.true)

pub returns-then-a-lt224 : goal.returns-then-a-lt224
returns-then-a-lt224 c =
    let a = c.args.self in
    c.then_some.ensures ∙ size_if _ 2 (omega arith) ∙ ap some_size (rw (c.within.ensures, c.is_tail.ensures) (two_bytes a.a a.b a.c a.d c.if-a-le127.false c.if-a-lt224.true))

pub returns-then-a-lt240 : goal.returns-then-a-lt240
returns-then-a-lt240 c =
    let a = c.args.self in
    c.then_some-then-a-lt240.ensures ∙ size_if _ 3 (omega arith)
    ∙ ap some_size (rw (c.is_tail-then-a-lt240.ensures, c.is_tail-then-a-lt240-2.ensures)
    (after_tail _ _ _ _ 3 c.is_start3.ensures ∙ three_bytes a.a a.b a.c a.d c.if-a-le127.false c.if-a-lt224.false c.if-a-lt240.true))

pub returns : goal.returns
returns c =
    let a = c.args.self in
    c.then_some-2.ensures ∙ size_if _ 4 (omega arith)
    ∙ ap some_size (rw (c.is_tail-2.ensures, c.is_tail-3.ensures, c.is_tail-4.ensures)
    (after_tail_2 _ _ _ _ _ 4 c.is_start4.ensures ∙ four_bytes a.a a.b a.c a.d c.if-a-le127.false c.if-a-lt240.false))
