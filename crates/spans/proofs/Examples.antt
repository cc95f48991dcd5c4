-- Worked examples of `spans`: document 01's specimens and the readings of its "Block reader" section.
-- Assumes nothing.
use mathlib.Core.Path.{◌≡◌, refl}
use Prim.Native.Nat.{ℕ}
use Prim.Native.String.{String}
use mathlib.Core.Bool.{Bool, true, false}
use mathlib.Core.List.{List, [], ◌∷◌, map}
use Rattle.text.specs.Words.{str, index}
use Rattle.text.specs.Utf8.{utf8, size, char, char_of, starts3, starts4, scan, chars}
use Rattle.records.specs.Blocks.{Span}
use Rattle.records.specs.Format.{encode_span, encode_spans}
use Rattle.spans.specs.Spans.{flush, link, code_step, star_step, link_step, image_step, step, walk, spans_at, spans}
use Rattle.spans.specs.Line.{line_spans}

abbrev shown : Bool → Bool → Bool → String → Span
shown bold italic code t = record { text = str t; bold = bold; italic = italic; code = code }

abbrev plain : String → Span
plain t = shown false false false t

-- a line, and its spans
abbrev rows : List (String × List Span)
rows =
    -- a link without a label parts nothing, and an image is dropped
    ("a[](u)b", plain "ab" ∷ []) ∷
    ("a![x](u)b", plain "ab" ∷ []) ∷
    ("![](u)", []) ∷
    ("**", []) ∷
    -- spans of equal emphasis are not merged
    ("a[b](u)c", plain "a" ∷ plain "b" ∷ plain "c" ∷ []) ∷
    -- emphasis: two stars are bold, one is italic, and it crosses joined lines
    ("*a**b*", shown false true false "a" ∷ shown true true false "b" ∷ []) ∷
    ("* *", shown false true false " " ∷ []) ∷
    ("*a b*", shown false true false "a b" ∷ []) ∷
    -- the emphasis around a link carries into its label and is or-ed; what a label toggles stays in it
    ("*[*a](u)", shown false true false "a" ∷ []) ∷
    ("*x[**y**z](u)*", shown false true false "x" ∷ shown true true false "y" ∷ shown false true false "z" ∷ []) ∷
    ("[*a](u)b", shown false true false "a" ∷ plain "b" ∷ []) ∷
    ("*[`a`](u)", shown false true true "a" ∷ []) ∷
    -- `(` stands directly after the first `]`, and neither a backslash nor a backtick protects a bracket
    ("[\\](u)", plain "\\" ∷ []) ∷
    ("[`](u)`", plain "`" ∷ plain "`" ∷ []) ∷
    ("[a] (u)", plain "[a] (u)" ∷ []) ∷
    ("[a]b](u)", plain "[a]b](u)" ∷ []) ∷
    ("[a](u", plain "[a](u" ∷ []) ∷
    ("[[a](u)](v)", plain "[a" ∷ plain "](v)" ∷ []) ∷
    -- code keeps bold and italic, and honours no backslash
    ("***a`b`", shown true true false "a" ∷ shown true true true "b" ∷ []) ∷
    ("``", shown false false true "" ∷ []) ∷
    ("`\\`a", shown false false true "\\" ∷ plain "a" ∷ []) ∷
    ("a`b", plain "a`b" ∷ []) ∷
    -- a backslash makes the next character text
    ("\\*a\\\\", plain "*a\\" ∷ []) ∷
    ("a\\ b", plain "a b" ∷ []) ∷
    ("\\é*é*", plain "é" ∷ shown false true false "é" ∷ []) ∷
    ("a\\", plain "a\\" ∷ []) ∷ []

rows_hold : map (λ (r : String × List Span). spans (str r.0)) rows ≡ map (λ (r : String × List Span). r.1) rows
unfolding spans spans_at walk step code_step star_step link_step image_step link flush index
rows_hold = refl

-- a line's bytes, and its records: a title, empty code, and a backslash before a byte that is no character's
abbrev lines : List (List ℕ × List ℕ)
lines =
    (84 ∷ [], 8 ∷ 1 ∷ 0 ∷ 0 ∷ 0 ∷ 84 ∷ []) ∷
    (96 ∷ 96 ∷ [], 4 ∷ []) ∷
    (92 ∷ 195 ∷ 42 ∷ [], 8 ∷ 1 ∷ 0 ∷ 0 ∷ 0 ∷ 195 ∷ []) ∷ []

lines_hold : map (λ (r : List ℕ × List ℕ). encode_spans (line_spans r.0 0)) lines ≡ map (λ (r : List ℕ × List ℕ). r.1) lines
unfolding spans spans_at walk step code_step star_step link_step image_step link flush index line_spans chars scan char char_of starts3 starts4 encode_spans encode_span size utf8
lines_hold = refl
