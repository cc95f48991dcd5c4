-- A row of a table made in one pass: ` | `, and any other `|`, becomes ` · `; and what that means in a buffer.
-- Assumes nothing.
use Rattle.std.specs.Prelude.{ℕ, zero, suc, ◌+◌, ◌*◌, ◌-◌, ◌≤◌, Bool, List, [], ◌∷◌, ◌++◌, ◌≡◌, eqb, length, if◌then◌else◌}
use Rattle.std.specs.Prelude.{Some, None}
use Rattle.std.specs.Prelude as code
use Rattle.text.specs.Words.{starts}
use Rattle.text.specs.Utf8.{chars}
use Rattle.text.specs.Trim.{trim}
use Rattle.markdown.specs.Blocks.{row}
use Rattle.text.specs.Part.{between}
use Rattle.markdown.specs.Parts.{size, text_at}
use Rattle.text.specs.declared.Part.{Part}
use Rattle.markdown.specs.declared.lines.Text.{Text}

-- the first n characters belong to the ` | ` before them
unfoldable pub cells : List ℕ → ℕ → List ℕ → List ℕ
cells dot n [] = []
cells dot (suc n) (c ∷ s) = cells dot n s
cells dot zero (c ∷ s) =
    let spaced = dot ++ cells dot 2 s in
    let barred = dot ++ cells dot 0 s in
    let kept = c ∷ cells dot 0 s in
    if starts " | " (c ∷ s) then spaced
    else if eqb c 124 then barred
    else kept

-- how long the ` | `, or the other `|`, is that a text starts with, if it starts with one
abbrev pub bar_size : List ℕ → code.Option ℕ
bar_size s = if starts " | " s then Some 3 else if starts "|" s then Some 1 else None

-- the bytes of ` · `
abbrev pub dot_bytes : List ℕ
dot_bytes = 32 ∷ 194 ∷ 183 ∷ 32 ∷ []

-- the cells of the part from a to b of a buffer, stored from `at` on
pub record CellsIs (work₀ work : List ℕ) (a b at r : ℕ) : Type 0 where
  pub text : between work at r ≡ cells dot_bytes 0 (between work₀ a b)
  pub low : at ≤ r
  pub high : r ≤ at + 4 * (b - a)

-- the row that the part from `from` to `to` is, stored from `at` on
pub record RowIs (work₀ work : List ℕ) (from to at r : ℕ) : Type 0 where
  pub text : trim (chars (between work at r)) ≡ row (chars (between work₀ from to))
  pub low : at ≤ r
  pub high : r ≤ at + 4 * (to - from)

-- the row that a part of the Markdown, or of the work buffer, is, made in the work buffer
pub record RowMade (markdown work₀ work : List ℕ) (t : Text) (r : Part) : Type 0 where
  pub text : chars (between work r.start r.end) ≡ row (chars (text_at markdown work₀ t))
  pub order : r.start ≤ r.end
  pub long : r.end ≤ r.start + 4 * size t
  pub bound : r.end ≤ length work
