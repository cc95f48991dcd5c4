-- What the program `notes` writes for the bytes that it reads: document 01, the paragraph below the specimens.
-- Assumes nothing.
use Rattle.std.specs.Prelude.{ℕ, ◌+◌, List, ◌∷◌, ◌++◌, ltb, length, if◌then◌else◌}
use Rattle.text.specs.Words.{str}
use Rattle.text.specs.Outcome.{Outcome, refused, wrote}
use Rattle.html.specs.Calls.{html_to_markdown_call}

-- `refused`, 32, its number, byte 10; the numbers are 1 to 7, so one digit
abbrev pub refusal : ℕ → List ℕ
refusal n = str "refused " ++ (48 + n) ∷ str "\n"

-- the Markdown and byte 10; or a refusal
abbrev pub outcome_text : Outcome → List ℕ
outcome_text (wrote markdown) = markdown ++ str "\n"
outcome_text (refused n) = refusal n

-- the work buffer has 2 × 16,384 + 16,384 bytes, and the result 32,000: enough for every page that is read
abbrev pub page_text : List ℕ → List ℕ
page_text page = outcome_text (html_to_markdown_call page 49152 32000)

-- up to 16,384 bytes are read
unfoldable pub program_text : List ℕ → List ℕ
program_text input = if ltb 16384 (length input) then str "too long\n" else page_text input
