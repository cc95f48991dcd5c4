-- `text::Four::code` meets its contract: the size tells the row of the table.
-- Assumes nothing.
use native.Mathlib.Omega.{arith}
use mathlib.Core.Path.{◌∙◌}
use Rattle.text.proofs.Tests.{within_is}
use Rattle.text.proofs.Utf8.{size_1, size_2, size_3, size_4}
use Rattle.text.proofs.decoding.Four.code.Goals as goal

pub returns-then-n-eq1 : goal.returns-then-n-eq1
returns-then-n-eq1 c = size_1 c.args.self.a c.args.self.b c.args.self.c c.args.self.d c.args.n c.requires.0 c.if-n-eq1.true

pub overflow_sub-a : goal.overflow_sub-a
overflow_sub-a c = let h = (size_2 c.args.self.a c.args.self.b c.args.self.c c.args.self.d c.args.n c.requires.0 c.if-n-eq2.true).0 in omega arith

pub join-requires : goal.join-requires
join-requires c = let h = (size_2 c.args.self.a c.args.self.b c.args.self.c c.args.self.d c.args.n c.requires.0 c.if-n-eq2.true).0 in (omega arith, within_is 0x80 0xBF _ h.b_low h.b_high)

pub returns-then-n-eq2 : goal.returns-then-n-eq2
returns-then-n-eq2 c = (size_2 c.args.self.a c.args.self.b c.args.self.c c.args.self.d c.args.n c.requires.0 c.if-n-eq2.true).1 ∙ rw c.join.ensures

pub overflow_sub-a-then-n-eq3 : goal.overflow_sub-a-then-n-eq3
overflow_sub-a-then-n-eq3 c = let h = (size_3 c.args.self.a c.args.self.b c.args.self.c c.args.self.d c.args.n c.requires.0 c.if-n-eq3.true).0 in omega arith

pub join-requires-then-n-eq3 : goal.join-requires-then-n-eq3
join-requires-then-n-eq3 c = let h = (size_3 c.args.self.a c.args.self.b c.args.self.c c.args.self.d c.args.n c.requires.0 c.if-n-eq3.true).0 in (omega arith, within_is 0x80 0xBF _ h.b_low h.b_high)

pub join-requires-then-n-eq3-2 : goal.join-requires-then-n-eq3-2
join-requires-then-n-eq3-2 c =
    let h = (size_3 c.args.self.a c.args.self.b c.args.self.c c.args.self.d c.args.n c.requires.0 c.if-n-eq3.true).0 in
    (omega (arith, c.join-then-n-eq3.ensures), within_is 0x80 0xBF _ h.c_low h.c_high)

pub returns-then-n-eq3 : goal.returns-then-n-eq3
returns-then-n-eq3 c = (size_3 c.args.self.a c.args.self.b c.args.self.c c.args.self.d c.args.n c.requires.0 c.if-n-eq3.true).1 ∙ rw (c.join-then-n-eq3-2.ensures, c.join-then-n-eq3.ensures)

pub overflow_sub-a-2 : goal.overflow_sub-a-2
overflow_sub-a-2 c = let h = (size_4 c.args.self.a c.args.self.b c.args.self.c c.args.self.d c.args.n c.requires.0 c.requires.1 c.if-n-eq1.false c.if-n-eq2.false c.if-n-eq3.false).0 in omega arith

pub join-requires-2 : goal.join-requires-2
join-requires-2 c =
    let h = (size_4 c.args.self.a c.args.self.b c.args.self.c c.args.self.d c.args.n c.requires.0 c.requires.1 c.if-n-eq1.false c.if-n-eq2.false c.if-n-eq3.false).0 in
    (omega arith, within_is 0x80 0xBF _ h.b_low h.b_high)

pub join-requires-3 : goal.join-requires-3
join-requires-3 c =
    let h = (size_4 c.args.self.a c.args.self.b c.args.self.c c.args.self.d c.args.n c.requires.0 c.requires.1 c.if-n-eq1.false c.if-n-eq2.false c.if-n-eq3.false).0 in
    (omega (arith, c.join-2.ensures), within_is 0x80 0xBF _ h.c_low h.c_high)

pub join-requires-4 : goal.join-requires-4
join-requires-4 c =
    let h = (size_4 c.args.self.a c.args.self.b c.args.self.c c.args.self.d c.args.n c.requires.0 c.requires.1 c.if-n-eq1.false c.if-n-eq2.false c.if-n-eq3.false).0 in
    (omega (arith, c.join-3.ensures, c.join-2.ensures), within_is 0x80 0xBF _ h.d_low h.d_high)

pub returns : goal.returns
returns c =
    (size_4 c.args.self.a c.args.self.b c.args.self.c c.args.self.d c.args.n c.requires.0 c.requires.1 c.if-n-eq1.false c.if-n-eq2.false c.if-n-eq3.false).1
    ∙ rw (c.join-4.ensures, c.join-3.ensures, c.join-2.ensures)
