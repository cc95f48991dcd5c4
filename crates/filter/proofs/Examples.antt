-- Worked examples of what the program writes, by computation: one list and one theorem.
-- Assumes nothing.
use Prim.Native.Nat.{ℕ}
use Prim.Native.String.{String}
use mathlib.Core.Path.{◌≡◌, refl}
use mathlib.Core.List.{List, [], ◌∷◌, map}
use lib.ListN.{replicate}
use Rattle.text.specs.Words.{str, repeat, index, take_while, drop_while, trim_end_matches}
use Rattle.text.specs.Chars.{is_space, is_control, is_scalar}
use Rattle.text.specs.Utf8.{size, utf8, starts3, starts4, char_of, char, scan, chars, is_utf8, decode}
use Rattle.text.specs.Cut.{cut}
use Rattle.text.specs.Decimal.{digits}
use Rattle.reference.specs.Unescape.{digit, digits as number_digits, some_digits, from_str_radix, names, written, number, named, reference, unescaped, unescape}
use Rattle.html.specs.State.{line_start, block, newline, spaced, marks, special, opens, ends_with_digit, escape, put, blank, paused, next, put_all, text, tags, tag_of, list_changed, item, tag}
use Rattle.html.specs.Page.{listed, shown, skipped, element, inside, words, comment, a_tag, markup, turn, loop, finish, html_to_markdown}
use Rattle.html.specs.Calls.{converted, with_buffers, html_to_markdown_call}
use Rattle.filter.specs.Program.{program_text}

-- what is read, and what is written
abbrev rows : List (List ℕ × String)
rows =
    -- document 01's own example
    (str "<h1>T</h1><ul><li>a</li></ul>", "# T\n\n- a\n") ∷
    ([], "\n") ∷
    (0xFF ∷ [], "refused 1\n") ∷
    -- a list is opened while 64 are open; 64 lists alone have no text
    (repeat 65 "<ul>", "refused 4\n") ∷
    (repeat 64 "<ul>", "\n") ∷
    -- one byte too many, whatever it is
    (replicate 16385 0xFF, "too long\n") ∷
    (replicate 16384 0xFF, "refused 1\n") ∷
    []

pub rows_hold : map (λ r. program_text r.0) rows ≡ map (λ r. str r.1) rows
unfolding program_text index take_while drop_while trim_end_matches is_space is_control is_scalar size utf8 decode starts3 starts4
    char_of char scan chars is_utf8 cut digits digit number_digits some_digits from_str_radix names written number named reference
    unescaped unescape line_start block newline spaced marks special opens ends_with_digit escape put blank paused next put_all text
    tags tag_of list_changed item tag listed shown skipped element inside words comment a_tag markup turn loop finish html_to_markdown
    converted with_buffers html_to_markdown_call
rows_hold = refl
