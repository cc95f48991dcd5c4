-- What the code's counts say of a text: its bytes and its characters, each at most 20,000; and the limits of a sheet.
-- Assumes nothing.
use Rattle.std.specs.Prelude.{ℕ, ◌+◌, ◌-◌, min, List, length, Option, Some, None, if◌then◌else◌}
use Rattle.text.specs.Utf8.{size}
use Rattle.sheet.specs.Sheet.{within_limits}
use Rattle.sheet.specs.declared.count.Count.{Count}

unfoldable pub weight : List ℕ → Count
weight l = record { bytes = min (size l) 20000; chars = min (length l) 20000 }

-- n characters of one byte each
abbrev pub alike : ℕ → Count
alike n = record { bytes = min n 20000; chars = min n 20000 }

abbrev pub added : Count → Count → Count
added a b = record { bytes = min (a.bytes + b.bytes) 20000; chars = min (a.chars + b.chars) 20000 }

-- the counts of a sheet's written form, from those of all its blocks, each with two bytes 10 before it; none where they pass a limit
abbrev pub judged : Count → Option Count
judged w =
    if within_limits (w.bytes - 2) (w.chars - 2) then Some (record { bytes = w.bytes - 2; chars = w.chars - 2 })
    else None
