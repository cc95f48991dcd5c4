-- `is_rule`, `list_marker` and `blocks` of notes.rs (document 01, "Block reader").
-- Assumes nothing.
use Rattle.std.specs.Prelude.{ℕ, zero, suc, ◌+◌, ◌-◌, ◌/◌, min, Bool, false, ◌&&◌, ◌||◌, List, [], ◌∷◌, ◌++◌, reverse, length, drop, leb, if◌then◌else◌}
use Rattle.std.proofs.Math.Option.{Option, none, some}
use Prim.Native.String.{String}
use Rattle.text.specs.Words.{case, str, is, matches, is_empty, all, any, starts, find, take_while, drop_while, trim_matches}
use Rattle.text.specs.Chars.{within, is_digit, is_space}
use Rattle.text.specs.Utf8.{size}
use Rattle.text.specs.Trim.{trim}
use Rattle.records.specs.Blocks.{Span, Kind, heading as headed, paragraph as plain, item, Block, Heading, Paragraph, Item}
use Rattle.spans.specs.Spans.{spans}

-- `line` is trimmed already
unfoldable pub is_rule : List ℕ → Bool
is_rule line = leb 3 (size line) && all (matches "-*_ |:") line && any (matches "-*_") line

-- depth, marker and text of an item
pub record Marked : Type 0 where
  pub depth : ℕ
  pub marker : List ℕ
  pub item : List ℕ

abbrev pub marked : ℕ → List ℕ → List ℕ → Marked
marked depth marker tail = record { depth = depth; marker = marker; item = trim tail }

-- the marker after `indent` bytes of space
unfoldable pub marker_at : ℕ → List ℕ → Option Marked
marker_at indent rest =
    let digits = take_while is_digit rest in
    let tail = drop_while is_digit rest in
    if starts "- " rest || starts "* " rest || starts "+ " rest then some (marked (indent / 2) (str "•") (drop 2 rest))
    else if starts ". " tail && within 1 9 (length digits) then some (marked (indent / 2) (digits ++ str ".") (drop 2 tail))
    else none

unfoldable pub list_marker : List ℕ → Option Marked
list_marker line = marker_at (size (take_while is_space line)) (drop_while is_space line)

-- `cleaned`: comments removed. How many characters after the first belong to the comment that s starts with
unfoldable pub comment : List ℕ → Option ℕ
comment s = if starts "<!--" s then some (case (find "-->" s) (length s) (λ end. end + 2)) else none

-- the first n characters of the list belong to the comment before it
unfoldable pub cleaned : ℕ → List ℕ → List ℕ
cleaned n [] = []
cleaned (suc n) (c ∷ s) = cleaned n s
cleaned zero (c ∷ s) = case (comment (c ∷ s)) (c ∷ cleaned 0 s) (λ n. cleaned n s)

-- `lines`. The \r that Rust takes off before \n is a space, and whatever is made of a line is trimmed
abbrev pub before_lines : ℕ → List (List ℕ) → List (List ℕ)
before_lines c [] = (c ∷ []) ∷ []
before_lines c (l ∷ ls) = (c ∷ l) ∷ ls

unfoldable pub lines : List ℕ → List (List ℕ)
lines [] = []
lines (c ∷ s) = let more = lines s in if is "\n" c then [] ∷ more else before_lines c more

-- `s.replace(p, by)`; the first n characters of the list belong to the p before it
unfoldable pub replace : String → List ℕ → ℕ → List ℕ → List ℕ
replace p by n [] = []
replace p by (suc n) (c ∷ s) = replace p by n s
replace p by zero (c ∷ s) =
    let replaced = by ++ replace p by (length (str p) - 1) s in
    let kept = c ∷ replace p by 0 s in
    if starts p (c ∷ s) then replaced else kept

-- a row of a table
unfoldable pub row : List ℕ → List ℕ
row trimmed = trim (replace "|" (str " · ") 0 (replace " | " (str " · ") 0 (trim_matches (is "|") trimmed)))

-- the blocks so far, last first, and the paragraph that is open
pub record Reader : Type 0 where
  pub blocks : List Block
  pub paragraph : List ℕ

abbrev pub reader : List Block → List ℕ → Reader
reader bs p = record { blocks = bs; paragraph = p }

unfoldable pub flush : Reader → List Block
flush r = if is_empty r.paragraph then r.blocks else Paragraph (spans r.paragraph) ∷ r.blocks

-- a block that ends the paragraph
abbrev pub added : Block → Reader → Reader
added b r = reader (b ∷ flush r) []

unfoldable pub heading : List ℕ → Reader → Reader
heading trimmed r =
    let level = length (take_while (is "#") trimmed) in
    let title = drop_while (is "#") trimmed in
    if starts " " title && leb level 6 then added (Heading (min level 3) (spans (trim title))) r
    else reader (flush r) trimmed

-- a line of the paragraph that is open, or of a new one
abbrev pub joined : List ℕ → List ℕ → List ℕ
joined [] line = line
joined (c ∷ s) line = (c ∷ s) ++ str " " ++ line

unfoldable pub paragraph : List ℕ → Reader → Reader
paragraph trimmed r = reader r.blocks (joined r.paragraph trimmed)

-- a wrapped line of the item above; none where the block above is no item
abbrev pub plain_space : Span
plain_space = record { text = str " "; bold = false; italic = false; code = false }

abbrev pub with_spans : Kind → List Span → List Span → Option Block
with_spans (headed level) ss more = none
with_spans plain ss more = none
with_spans (item depth marker) ss more = some (Item depth marker (ss ++ (plain_space ∷ more)))

abbrev pub continued : List Span → List Block → Option (List Block)
continued more [] = none
continued more (b ∷ bs) = case (with_spans b.kind b.spans more) none (λ c. some (c ∷ bs))

unfoldable pub continuation : List ℕ → Reader → Reader
continuation trimmed r = case (continued (spans trimmed) r.blocks) (paragraph trimmed r) (λ bs. reader bs [])

-- a line that is neither blank nor starts with `#` and has no list marker; whether a space stands before its text
unfoldable pub read_text : Reader → Bool → List ℕ → Reader
read_text r indented trimmed =
    if is_rule trimmed then reader (flush r) []
    else if starts "|" trimmed then added (Paragraph (spans (row trimmed))) r
    else if is_empty r.paragraph && indented then continuation trimmed r
    else paragraph trimmed r

unfoldable pub read_line : Reader → List ℕ → Reader
read_line r line =
    let trimmed = trim line in
    if is_empty trimmed then reader (flush r) []
    else if starts "#" trimmed then heading trimmed r
    else case (list_marker line) (read_text r (starts " " line) trimmed) (λ m. added (Item m.depth m.marker (spans m.item)) r)

unfoldable pub read_lines : Reader → List (List ℕ) → Reader
read_lines r [] = r
read_lines r (l ∷ ls) = read_lines (read_line r l) ls

unfoldable pub blocks : List ℕ → List Block
blocks markdown = reverse (flush (read_lines (reader [] []) (lines (cleaned 0 markdown))))
