-- What `blocks` answers for a Markdown text's bytes and the lengths of the two buffers (document 01, "Where each call says no").
-- Assumes nothing.
use Rattle.std.specs.Prelude.{ℕ, ◌*◌, List, length, ltb, if◌then◌else◌}
use Rattle.text.specs.Words.{case}
use Rattle.text.specs.Utf8.{decode}
use Rattle.text.specs.Outcome.{Outcome, refused, wrote}
use Rattle.records.specs.Format.{encode_blocks}
use Rattle.markdown.specs.Blocks.{blocks}

unfoldable pub recorded : List ℕ → ℕ → Outcome
recorded records result = if ltb result (length records) then refused 6 else wrote records

unfoldable pub with_buffers : List ℕ → ℕ → ℕ → ℕ → Outcome
with_buffers markdown size work result =
    if ltb work (6 * size) then refused 2 else recorded (encode_blocks (blocks markdown)) result

unfoldable pub blocks_call : List ℕ → ℕ → ℕ → Outcome
blocks_call bytes work result =
    if ltb 65536 (length bytes) then refused 5
    else case (decode bytes) (refused 1) (λ markdown. with_buffers markdown (length bytes) work result)
