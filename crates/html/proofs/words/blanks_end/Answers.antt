-- `blanks_end` meets its contract.
-- Assumes nothing.
use native.Mathlib.Omega.{arith}
use Prim.Native.Nat.{◌+◌, ◌≤◌}
use mathlib.Core.Path.{◌≡◌}
use lib.ListN.{length, drop}
use Rattle.text.specs.Trim.{trim_start}
use Rattle.text.specs.Utf8.{chars}
use Rattle.html.proofs.TextLaws.{blanks_off}
use Rattle.html.proofs.words.blanks_end.Goals as goal
use Rattle.html.proofs.words.blanks_end.Goals.{After-start_of}

off : (c : After-start_of)
    → let a = c.args in
    (chars (drop (a.i + c.start_of.result) a.raw.now) ≡ trim_start (chars (drop a.i a.raw.now))) × ((a.i ≤ a.i + c.start_of.result) × (a.i + c.start_of.result ≤ length a.raw.now))
off c = blanks_off c.args.raw.now c.args.i c.start_of.result c.requires c.start_of.ensures

pub overflow_add-result : goal.overflow_add-result
overflow_add-result c = omega (arith, (off c).1.1)

pub returns : goal.returns
returns c = off c
