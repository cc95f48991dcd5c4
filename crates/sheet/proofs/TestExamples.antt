-- The sheet test on pages written out: the definition computes document 01's answers.
-- Assumes nothing.
use Prim.Native.String.{String}
use Rattle.std.proofs.Common.{◌≡◌, refl, List, [], ◌∷◌, map}
use Rattle.text.specs.Words.{str}
use Rattle.text.specs.Chars.{is_scalar, is_space, is_control}
use Rattle.text.specs.Utf8.{utf8, size, starts3, starts4, char_of, char as utf8_char, scan, chars, is_utf8, decode}
use Rattle.text.specs.Decimal.{digits}
use Rattle.html.specs.State.{special}
use Rattle.sheet.specs.Reading.{many}
use Rattle.sheet.specs.Grammar.{shown, singles, first_is, last_is, fits, apart, first_letter, last_no_blank, neat}
use Rattle.sheet.specs.Reader.{own, referred, char, text, kind, one_run, line, item, list_of, read_list, closed_by, headed, read_heading, read_para, block, read_page}
use Rattle.sheet.specs.Written.{rows_from, rows, escaped, written_runs, joined, written}
use Rattle.sheet.specs.Sheet.{small}
use Rattle.sheet.specs.Calls.{sheet, Tested, no_utf8, no_sheet, yes_sheet, sheet_call}

pages : List (String × Tested)
pages =
    ("", yes_sheet 0 0)
    ∷ ("\n<h5>T</h5>\n", yes_sheet 5 5)
    ∷ ("<p>a&lt;b</p>", yes_sheet 3 3)
    ∷ ("<p>a*b</p><p>c</p>", yes_sheet 7 7)
    ∷ ("<p><em>a</em> <em>b</em></p>", yes_sheet 7 7)
    ∷ ("<p><em>a</em><em>b</em></p>", no_sheet)
    ∷ ("<p><em>a</em><strong><em>b</em></strong></p>", no_sheet)
    ∷ ("<p>a </p>", no_sheet)
    ∷ ("<p>1</p>", no_sheet)
    ∷ ("<p>a<code>*</code></p>", no_sheet)
    ∷ ("<ul><li>a</li></ul>", yes_sheet 3 3)
    ∷ ("<ul><li>a\n</li></ul>", no_sheet)
    ∷ ("<ul><li></li></ul>", no_sheet)
    ∷ ("<ol><li>a<ul><li>b</li></ul></li><li>c</li></ol>", yes_sheet 15 15)
    ∷ []

answers : map (λ (r : String × Tested). sheet_call (str r.0)) pages ≡ map (λ (r : String × Tested). r.1) pages
unfolding pages sheet_call sheet small decode is_utf8 chars scan utf8_char char_of starts3 starts4 is_scalar is_space is_control utf8 size digits special many
    shown singles first_is last_is fits apart first_letter last_no_blank neat own char referred text kind one_run line item list_of read_list closed_by headed
    read_heading read_para block read_page rows_from rows escaped written_runs joined written
answers = refl

-- a byte that is no character
refused : sheet_call (60 ∷ 255 ∷ []) ≡ no_utf8
unfolding sheet_call decode is_utf8 chars scan utf8_char char_of starts3 starts4 is_scalar
refused = refl
