-- What the shape of a line means to the reader: document 01, "Block reader". Offsets count bytes of the line.
-- Assumes nothing.
use Rattle.std.specs.Prelude.{ℕ, ◌+◌, ◌/◌, ◌≤◌, true, List, [], ◌∷◌, ◌++◌, ◌≡◌}
use Rattle.std.specs.Prelude.{Some, None}
use Rattle.std.specs.Prelude as code
use Rattle.std.proofs.Math.Option.{none, some}
use Rattle.text.specs.Words.{str, all}
use Rattle.text.specs.Chars.{is_digit}
use Rattle.text.specs.Utf8.{chars}
use Rattle.text.specs.Trim.{trim, start_of}
use Rattle.records.specs.Blocks.{Heading}
use Rattle.spans.specs.Spans.{spans}
use Rattle.markdown.specs.Blocks.{Marked, list_marker, Reader, reader, flush, added, heading}
use Rattle.text.specs.Part.{between, Inside}
use Rattle.text.specs.declared.Part.{Part}
use Rattle.markdown.specs.declared.shape.Title.{Title}
use Rattle.markdown.specs.declared.shape.Marker.{Marker}

abbrev pub part : ℕ → ℕ → Part
part start end = record { start = start; end = end }

-- the bytes of a part
abbrev pub part_text : List ℕ → Part → List ℕ
part_text s p = between s p.start p.end

-- a part without the spaces at its ends
pub record Trimmed (s : List ℕ) (from to : ℕ) (r : Part) : Type 0 where
  pub low : from ≤ r.start
  pub order : r.start ≤ r.end
  pub high : r.end ≤ to
  pub start : r.start ≡ from + start_of (between s from to)
  pub text : chars (part_text s r) ≡ trim (chars (between s from to))

-- a trimmed line that starts with `#`
pub record Titled (line : List ℕ) (t : Title) : Type 0 where
  pub low : t.level ≤ 3
  pub inside : Inside line t.text.start t.text.end
  pub reads : (r : Reader) → heading (chars line) r ≡ added (Heading t.level (spans (chars (part_text line t.text)))) r

abbrev pub TitleIs : List ℕ → code.Option Title → Type 0
TitleIs line (Some t) = Titled line t
TitleIs line None = (r : Reader) → heading (chars line) r ≡ reader (flush r) (chars line)

-- a list marker: none or up to nine digits; a marker without digits is the bullet
abbrev pub mark : List ℕ → List ℕ
mark [] = str "•"
mark (d ∷ ds) = (d ∷ ds) ++ str "."

abbrev pub item_of : ℕ → List ℕ → List ℕ → Marked
item_of depth digits text = record { depth = depth; marker = mark digits; item = chars text }

-- an item with its digits from `at` to `stop`
abbrev pub marker : ℕ → ℕ → Part → Marker
marker at stop text = record { depth = at / 2; digits = part at stop; text = text }

pub record MarkerAt (line : List ℕ) (m : Marker) : Type 0 where
  pub digits : Inside line m.digits.start m.digits.end
  pub few : m.digits.end ≤ m.digits.start + 9
  pub ascii : all is_digit (part_text line m.digits) ≡ true
  pub inside : Inside line m.text.start m.text.end
  pub reads : list_marker (chars line) ≡ some (item_of m.depth (part_text line m.digits) (part_text line m.text))

abbrev pub MarkerIs : List ℕ → code.Option Marker → Type 0
MarkerIs line (Some m) = MarkerAt line m
MarkerIs line None = list_marker (chars line) ≡ none
