-- Worked examples of `blocks`: document 01's specimens and the readings of its "Block reader" section.
-- Assumes nothing.
use mathlib.Core.Path.{◌≡◌, refl}
use Prim.Native.Nat.{ℕ}
use Prim.Native.String.{String}
use mathlib.Core.Bool.{Bool, true, false}
use mathlib.Core.List.{List, [], ◌∷◌, map}
use Rattle.text.specs.Words.{str, index, take_while, drop_while, trim_end_matches}
use Rattle.text.specs.Chars.{is_space}
use Rattle.text.specs.Utf8.{utf8, size}
use Rattle.records.specs.Blocks.{Span, Block, Heading, Paragraph, Item}
use Rattle.spans.specs.Spans.{link, code_step, star_step, link_step, image_step, step, walk, spans_at, spans, flush as flush_spans}
use Rattle.markdown.specs.Blocks.{is_rule, marker_at, list_marker, comment, cleaned, lines, replace, row, flush, heading, paragraph, continuation, read_text, read_line, read_lines, blocks}
use Rattle.markdown.specs.Shown.{shown as shown_of}

-- opens what `blocks` stands on, so that it can be computed
unfoldable line : List ℕ → List Span
unfolding spans spans_at walk step code_step star_step link_step image_step link flush_spans
line text = spans text

unfoldable words : List ℕ → List ℕ
unfolding row replace is_space take_while drop_while trim_end_matches index size utf8
words text = row text

unfoldable read : List ℕ → List Block
unfolding blocks flush read_lines read_line read_text heading paragraph continuation lines cleaned comment list_marker marker_at is_rule line words
read markdown = blocks markdown

abbrev shown : Bool → String → Span
shown italic t = record { text = str t; bold = false; italic = italic; code = false }

abbrev plain : String → Span
plain t = shown false t

abbrev text : String → Block
text t = Paragraph (plain t ∷ [])

abbrev bullet : ℕ → List Span → Block
bullet depth ss = Item depth (str "•") ss

-- a Markdown text, and its blocks
abbrev rows : List (String × List Block)
rows =
    -- a line that starts with `#` and is no heading opens a paragraph
    ("a\n#b", text "a" ∷ text "#b" ∷ []) ∷
    ("- a\n #b", bullet 0 (plain "a" ∷ []) ∷ text "#b" ∷ []) ∷
    ("#a\nb", text "#a b" ∷ []) ∷
    ("####### T", text "####### T" ∷ []) ∷
    ("###### T", Heading 3 (plain "T" ∷ []) ∷ []) ∷
    ("# T #", Heading 1 (plain "T #" ∷ []) ∷ []) ∷
    ("# ", text "#" ∷ []) ∷
    ("#\tT", text "#\tT" ∷ []) ∷
    -- list markers see the untrimmed line
    ("- ", bullet 0 [] ∷ []) ∷
    ("1. ", Item 0 (str "1.") [] ∷ []) ∷
    ("-", text "-" ∷ []) ∷
    ("01. a", Item 0 (str "01.") (plain "a" ∷ []) ∷ []) ∷
    ("123456789. a", Item 0 (str "123456789.") (plain "a" ∷ []) ∷ []) ∷
    ("1234567890. a", text "1234567890. a" ∷ []) ∷
    ("\t- a", bullet 0 (plain "a" ∷ []) ∷ []) ∷
    -- an item goes on after blank lines and rules, with a span of one space
    ("- a\n\n b", bullet 0 (plain "a" ∷ plain " " ∷ plain "b" ∷ []) ∷ []) ∷
    ("- a\n***\n b", bullet 0 (plain "a" ∷ plain " " ∷ plain "b" ∷ []) ∷ []) ∷
    ("- a\n ![](u)", bullet 0 (plain "a" ∷ plain " " ∷ []) ∷ []) ∷
    ("- *a\n  b*", bullet 0 (shown true "a" ∷ plain " " ∷ plain "b" ∷ []) ∷ []) ∷
    ("- a\n\tb", bullet 0 (plain "a" ∷ []) ∷ text "b" ∷ []) ∷
    -- lines are joined before their spans are read
    ("*a\nb*", Paragraph (shown true "a b" ∷ []) ∷ []) ∷
    ("a\\\nb", text "a b" ∷ []) ∷
    -- blocks without spans, and rules
    ("**", Paragraph [] ∷ []) ∷
    ("|||", Paragraph [] ∷ []) ∷
    ("****", []) ∷
    ("_ _ _", []) ∷
    ("|-|", []) ∷
    ("* * *", bullet 0 (shown true " " ∷ []) ∷ []) ∷
    ("+ + +", bullet 0 (plain "+ +" ∷ []) ∷ []) ∷
    -- rows
    ("|-", text "-" ∷ []) ∷
    ("|a |b", text "a  · b" ∷ []) ∷
    ("||a||b||", text "a ·  · b" ∷ []) ∷
    -- comments
    ("a<!--\n\n-->b", text "ab" ∷ []) ∷
    ("-<!--x--> a", bullet 0 (plain "a" ∷ []) ∷ []) ∷
    ("<!<!---->--x-->", text "<!--x-->" ∷ []) ∷
    ("<!-->a", text "a" ∷ []) ∷
    ("a<!--b", text "a" ∷ []) ∷
    []

pub examples : map (λ (r : String × List Block). blocks (str r.0)) rows ≡ map (λ (r : String × List Block). r.1) rows
unfolding read
examples = refl

-- the depth counts bytes: a no-break space has two, and an ideographic space has three
pub depths : map blocks ((0xA0 ∷ str "- a") ∷ (0x3000 ∷ 0x3000 ∷ str "- a") ∷ []) ≡ (bullet 1 (plain "a" ∷ []) ∷ []) ∷ (bullet 3 (plain "a" ∷ []) ∷ []) ∷ []
unfolding read
depths = refl

-- what the blocks of a Markdown text show of it, without their markers and with them
abbrev shows : List (String × String × String)
shows =
    ("# T\n\n- a\n  b\n12. c\n\nd\ne", "Ta bcd e", "T•a b12.cd e") ∷
    ("+ a\n* b\n", "ab", "•a•b") ∷
    ("| a | b|c |", "a · b · c", "a · b · c") ∷
    ("a [b](c)<!-- d -->![e](f)\\*", "a b*", "a b*") ∷
    []

abbrev shown_both : String → List (List ℕ)
shown_both t = let bs = blocks (str t) in shown_of false bs ∷ shown_of true bs ∷ []

pub shows_hold : map (λ (r : String × String × String). shown_both r.0) shows ≡ map (λ (r : String × String × String). str r.1 ∷ str r.2 ∷ []) shows
unfolding read
shows_hold = refl
