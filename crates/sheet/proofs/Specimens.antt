-- Document 01's specimens marked P: one list, and one theorem about the definitions that the contracts cite, by computation.
-- Assumes nothing.
use Rattle.std.proofs.Common.{◌≡◌, refl, ℕ, Bool, true, false, List, [], ◌∷◌, map}
use Prim.Native.String.{String}
use Rattle.text.specs.Words.{case, str, index, take_while, drop_while, trim_end_matches}
use Rattle.text.specs.Chars.{is_space, is_control, is_scalar}
use Rattle.text.specs.Utf8.{size, utf8, encode, starts3, starts4, char_of, char, scan, chars, is_utf8, decode}
use Rattle.text.specs.Cut.{cut}
use Rattle.text.specs.Decimal.{digits}
use Rattle.text.specs.Outcome.{Outcome, refused, wrote}
use Rattle.reference.specs.Unescape.{digit, digits as number_digits, some_digits, from_str_radix, names, written as number_written, number, named, reference, unescaped, unescape}
use Rattle.html.specs.State.{line_start, block, newline, spaced, marks, special, opens, ends_with_digit, escape, put, blank, paused, next, put_all, text, tags, tag_of, list_changed, item, tag}
use Rattle.html.specs.Page.{listed, shown as shown_tag, skipped, element, inside, words, comment, a_tag, markup, turn, loop, finish, html_to_markdown}
use Rattle.html.specs.Calls.{converted as converted_page, with_buffers as page_buffers, html_to_markdown_call}
use Rattle.records.specs.Blocks.{Span, Block, Heading, Paragraph, Item}
use Rattle.records.specs.Format.{encode_span, encode_spans, encode_block, encode_blocks}
use Rattle.spans.specs.Spans.{link, code_step, star_step, link_step, image_step, step, flush, walk, spans_at, spans}
use Rattle.markdown.specs.Blocks.{is_rule, marker_at, list_marker, comment as comment_here, cleaned, lines, replace, row, flush as flush_paragraph, heading, paragraph}
use Rattle.markdown.specs.Blocks.{continuation, read_text, read_line, read_lines, blocks}
use Rattle.markdown.specs.Calls.{recorded as recorded_blocks, with_buffers as markdown_buffers, blocks_call}
use Rattle.sheet.specs.Reading.{many}
use Rattle.sheet.specs.Grammar.{shown as shown_char, singles, first_is, last_is, fits, apart, first_letter, last_no_blank, neat}
use Rattle.sheet.specs.Reader.{own, referred, char as sheet_char, text as sheet_text, kind, one_run, line, item as sheet_item, list_of, read_list, closed_by, headed, read_heading}
use Rattle.sheet.specs.Reader.{read_para, block as sheet_block, read_page}
use Rattle.sheet.specs.Written.{rows_from, rows, escaped, written_runs, joined, written}
use Rattle.sheet.specs.Sheet.{small}
use Rattle.sheet.specs.Calls.{sheet, Tested, no_sheet, sheet_call}

-- what a row gives to the calls, and what it shows of their answers
pub data Input : Type 0 where
  page markdown records_of tested : String → Input

pub data Shown : Type 0 where
  -- a page's Markdown, and its blocks
  converted : List ℕ → List Block → Shown
  read : List Block → Shown
  recorded : List ℕ → Shown
  test : Tested → Shown
  no : ℕ → Shown

abbrev pub bytes_shown : (List ℕ → Shown) → Outcome → Shown
bytes_shown f (refused n) = no n
bytes_shown f (wrote bs) = f bs

abbrev pub then_read : List ℕ → Shown
then_read bs = case (decode bs) (no 1) (λ m. converted m (blocks m))

-- the buffers are long enough for every row
unfoldable pub shown : Input → Shown
shown (page html) = bytes_shown then_read (html_to_markdown_call (encode (str html)) 20000 32000)
shown (markdown m) = read (blocks (str m))
shown (records_of m) = bytes_shown recorded (blocks_call (encode (str m)) 1000 1000)
shown (tested html) = test (sheet_call (encode (str html)))

abbrev span : Bool → Bool → String → Span
span b i t = record { text = str t; bold = b; italic = i; code = false }

abbrev plain : String → Span
plain t = span false false t

-- the rows, and the second half of those that say two things
abbrev pub specimens : List (Input × Shown)
specimens =
    (page "", converted (str "") [])
    ∷ (records_of "", recorded [])
    ∷ (page "&amp;lt;", converted (str "&lt;") (Paragraph (plain "&lt;" ∷ []) ∷ []))
    ∷ (page "&#00000065;", converted (str "A") (Paragraph (plain "A" ∷ []) ∷ []))
    ∷ (page "&#000000065;", converted (str "&#000000065;") (Paragraph (plain "&#000000065;" ∷ []) ∷ []))
    ∷ (page "&#10;", converted (str "&#10;") (Paragraph (plain "&#10;" ∷ []) ∷ []))
    ∷ (page "<h5>T</h5>", converted (str "### T") (Heading 3 (plain "T" ∷ []) ∷ []))
    ∷ (page "<ul><li></li></ul>", converted (str "-") (Paragraph (plain "-" ∷ []) ∷ []))
    ∷ (page "<p>1. a</p>", converted (str "1. a") (Item 0 (str "1.") (plain "a" ∷ []) ∷ []))
    ∷ (page "<p><em>a</em><em>b</em></p>", converted (str "*a**b*") (Paragraph (span false true "a" ∷ span true true "b" ∷ []) ∷ []))
    ∷ (tested "<p><em>a</em><em>b</em></p>", test no_sheet)
    ∷ (markdown "* * *", read (Item 0 (str "•") (span false true " " ∷ []) ∷ []))
    ∷ (markdown "a[](u)b", read (Paragraph (plain "ab" ∷ []) ∷ []))
    ∷ (records_of "# T", recorded (0x09 ∷ 0x01 ∷ 0x01 ∷ 0x00 ∷ 0x00 ∷ 0x00 ∷ 0x08 ∷ 0x01 ∷ 0x00 ∷ 0x00 ∷ 0x00 ∷ 0x54 ∷ []))
    ∷ (records_of "``", recorded (0x08 ∷ 0x01 ∷ 0x00 ∷ 0x00 ∷ 0x00 ∷ 0x04 ∷ []))
    ∷ []

pub specimens_hold : map (λ r. shown r.0) specimens ≡ map (λ r. r.1) specimens
unfolding shown index take_while drop_while trim_end_matches is_space is_control is_scalar size utf8 decode starts3 starts4 char_of char scan chars is_utf8 cut
    digits digit number_digits some_digits from_str_radix names number_written number named reference unescaped unescape line_start block newline spaced marks
    special opens ends_with_digit escape put blank paused next put_all text tags tag_of list_changed item tag listed shown_tag skipped element inside words
    comment a_tag markup turn loop finish html_to_markdown converted_page page_buffers html_to_markdown_call encode_span encode_spans encode_block encode_blocks
    link code_step star_step link_step image_step step flush walk spans_at spans is_rule marker_at list_marker comment_here cleaned lines replace row
    flush_paragraph heading paragraph continuation read_text read_line read_lines blocks recorded_blocks markdown_buffers blocks_call many shown_char singles
    first_is last_is fits apart first_letter last_no_blank neat own sheet_char referred sheet_text kind one_run line sheet_item list_of read_list closed_by
    headed read_heading read_para sheet_block read_page rows_from rows escaped written_runs joined written small sheet sheet_call
specimens_hold = refl
