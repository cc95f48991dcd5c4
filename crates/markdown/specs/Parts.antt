-- What the block reader's offsets mean: parts of the Markdown and of the work buffer, and the lines of a text without comments.
-- Assumes nothing.
use Rattle.std.specs.Prelude.{ℕ, ◌+◌, ◌-◌, ◌≤◌, ◌<◌, Bool, true, false, not, ◌&&◌, List, ◌++◌, ◌≡◌, length, take, drop, eqb}
use Rattle.text.specs.Find.{until, since}
use Rattle.text.specs.Part.{between}
use Rattle.markdown.specs.Blocks.{cleaned}
use Rattle.markdown.specs.declared.lines.Text.{Text}
use Rattle.markdown.specs.declared.lines.Line.{Line}

abbrev pub source : Bool → List ℕ → List ℕ → List ℕ
source true markdown work = work
source false markdown work = markdown

-- a part of the Markdown, or of the work buffer
unfoldable pub text_of : List ℕ → List ℕ → Bool → ℕ → ℕ → List ℕ
text_of markdown work copied from to = between (source copied markdown work) from to

abbrev pub text_at : List ℕ → List ℕ → Text → List ℕ
text_at markdown work t = text_of markdown work t.copied t.part.start t.part.end

-- the texts that are parts of the Markdown, and of the work buffer; and how long a text is
abbrev pub lent : ℕ → ℕ → Text
lent start end = record { copied = false; part = record { start = start; end = end } }

abbrev pub copied : ℕ → ℕ → Text
copied start end = record { copied = true; part = record { start = start; end = end } }

abbrev pub size : Text → ℕ
size t = t.part.end - t.part.start

-- the first line of a text, and what stands after it
abbrev pub first_line : List ℕ → List ℕ
first_line s = until 10 s

abbrev pub other_lines : List ℕ → List ℕ
other_lines s = drop 1 (since 10 s)

-- a byte that ends no line and starts no comment
unfoldable pub quiet : ℕ → Bool
quiet x = not (eqb x 10) && not (eqb x 60)

-- the line that starts at offset i of the Markdown, once its comments are removed
pub record LineIs (markdown : List ℕ) (i : ℕ) (work₀ work : List ℕ) (l : Line) : Type 0 where
  pub bytes : text_at markdown work l.text ≡ first_line (cleaned 0 (drop i markdown))
  pub left : cleaned 0 (drop l.next markdown) ≡ other_lines (cleaned 0 (drop i markdown))
  pub kept : drop (length markdown) work ≡ drop (length markdown) work₀
  pub order : l.text.part.start ≤ l.text.part.end
  pub low : l.text.part.end ≤ length markdown
  pub short : l.text.part.end + i < l.next + l.text.part.start
  pub bound : l.next ≤ length markdown + 1

-- the rest of a line from an offset on, stored after what the buffer has of it
pub record CommentedIs (markdown : List ℕ) (start have : ℕ) (work₀ work : List ℕ) (l : Line) : Type 0 where
  pub copied : l.text.copied ≡ true
  pub first : l.text.part.start ≡ 0
  pub bytes : take l.text.part.end work ≡ take have work₀ ++ first_line (cleaned 0 (drop start markdown))
  pub left : cleaned 0 (drop l.next markdown) ≡ other_lines (cleaned 0 (drop start markdown))
  pub kept : drop (length markdown) work ≡ drop (length markdown) work₀
  pub size : length work ≡ length work₀
  pub short : l.text.part.end + start < l.next + have
  pub bound : l.next ≤ length markdown + 1
