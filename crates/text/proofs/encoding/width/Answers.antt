-- `text::width` meets its contract.
-- Assumes nothing.
use mathlib.Core.Path.{sym, ap}
use lib.ListN.{length}
use Rattle.text.proofs.Utf8.{utf8_1, utf8_2, utf8_3, utf8_4, size_past}
use Rattle.text.proofs.encoding.width.Goals as goal

pub returns-then-c-lt128 : goal.returns-then-c-lt128
returns-then-c-lt128 c = sym (ap length (utf8_1 _ c.if-c-lt128.true))

pub returns-then-c-lt2048 : goal.returns-then-c-lt2048
returns-then-c-lt2048 c = sym (ap length (utf8_2 _ c.if-c-lt128.false c.if-c-lt2048.true))

pub returns-then-c-lt65536 : goal.returns-then-c-lt65536
returns-then-c-lt65536 c = sym (ap length (utf8_3 _ c.if-c-lt2048.false c.if-c-lt65536.true))

pub returns-then-c-lt1114112 : goal.returns-then-c-lt1114112
returns-then-c-lt1114112 c = sym (ap length (utf8_4 _ c.if-c-lt65536.false c.if-c-lt1114112.true))

pub returns : goal.returns
returns c = sym (size_past _ c.if-c-lt1114112.false)
