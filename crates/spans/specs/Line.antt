-- The spans that `spans` of the code writes for a line of bytes (document 01, "Block reader").
-- Assumes nothing.
use Rattle.std.specs.Prelude.{ℕ, ◌^◌, ◌&&◌, List, [], leb, length, if◌then◌else◌}
use Rattle.text.specs.Utf8.{chars}
use Rattle.records.specs.Blocks.{Span}
use Rattle.spans.specs.Spans.{spans}

-- Those of its characters. A line of over 1,048,576 bytes, or one whose records would start past byte 2^40, has none here: then every
-- offset of a record is far below 2^64.
unfoldable pub line_spans : List ℕ → ℕ → List Span
line_spans line at = if leb (length line) 1048576 && leb at (2 ^ 40) then spans (chars line) else []
