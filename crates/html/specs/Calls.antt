-- What `html_to_markdown` answers for a page's bytes and the lengths of the two buffers (document 01, "Where each call says no").
-- Assumes nothing.
use Rattle.std.specs.Prelude.{ℕ, ◌+◌, ◌*◌, List, ltb, if◌then◌else◌}
use Rattle.text.specs.Words.{case}
use Rattle.text.specs.Utf8.{size, encode, decode}
use Rattle.text.specs.Outcome.{Outcome, refused, wrote}
use Rattle.html.specs.Page.{read_part, html_to_markdown}

unfoldable pub converted : List ℕ → Outcome
converted html = case (html_to_markdown html) (refused 4) (λ markdown. wrote (encode markdown))

unfoldable pub with_buffers : List ℕ → ℕ → ℕ → Outcome
with_buffers html work result =
    if ltb work (2 * size (read_part html) + 16384) then refused 2
    else if ltb result 32000 then refused 3
    else converted html

unfoldable pub html_to_markdown_call : List ℕ → ℕ → ℕ → Outcome
html_to_markdown_call page work result = case (decode page) (refused 1) (λ html. with_buffers html work result)
