-- `text::bytes_of` meets its contract: by the range of the character.
-- Assumes nothing.
use native.Mathlib.Omega.{arith}
use Rattle.text.proofs.Utf8.{utf8_1, utf8_2, utf8_3, utf8_4}
use Rattle.text.proofs.encoding.bytes_of.Goals as goal

pub returns-then-c-lt128 : goal.returns-then-c-lt128
returns-then-c-lt128 c = record { bytes = rw (utf8_1 c.args.c c.if-c-lt128.true); small = (omega arith, (omega arith, (omega arith, omega arith))) }

pub returns-then-c-lt2048 : goal.returns-then-c-lt2048
returns-then-c-lt2048 c = record { bytes = rw (utf8_2 c.args.c c.if-c-lt128.false c.if-c-lt2048.true); small = (omega arith, (omega arith, (omega arith, omega arith))) }

pub returns-then-c-lt65536 : goal.returns-then-c-lt65536
returns-then-c-lt65536 c = record { bytes = rw (utf8_3 c.args.c c.if-c-lt2048.false c.if-c-lt65536.true); small = (omega arith, (omega arith, (omega arith, omega arith))) }

pub returns : goal.returns
returns c = record { bytes = rw (utf8_4 c.args.c c.if-c-lt65536.false c.requires); small = (omega arith, (omega arith, (omega arith, omega arith))) }
