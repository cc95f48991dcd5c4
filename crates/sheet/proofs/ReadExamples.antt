-- A sheet with each kind of block and run, worked out: its tree is read from the page, its written form is as document 01 has it, and that is
-- read as the tree's blocks, by the theorem and by computing.
-- Assumes nothing.
use Rattle.std.proofs.Common.{◌≡◌, refl, ℕ, ◌<◌, arith, List, [], ◌∷◌}
use Rattle.std.proofs.Math.Option.{some}
use Rattle.text.specs.Words.{str, index, take_while, drop_while, trim_end_matches}
use Rattle.text.specs.Chars.{is_space, is_control}
use Rattle.text.specs.Utf8.{utf8, size}
use Rattle.text.specs.Decimal.{digits}
use Rattle.html.specs.State.{special}
use Rattle.spans.specs.Spans as S
use Rattle.spans.specs.Spans.{link, code_step, star_step, link_step, image_step, step, walk, spans_at, spans}
use Rattle.markdown.specs.Blocks.{is_rule, marker_at, list_marker, comment, cleaned, lines, replace, flush, heading as md_heading, paragraph, continuation, read_text, read_line, read_lines, blocks}
use Rattle.sheet.specs.Reading.{many}
use Rattle.sheet.specs.Tree.{plain, strong, em, both, code, run, ul, ol, end, leaf, node, Block, heading, para, list}
use Rattle.sheet.specs.Grammar.{shown, singles, first_is, last_is, fits, apart, first_letter, last_no_blank, neat}
use Rattle.sheet.specs.Reader.{own, referred, char, text, kind, one_run, line, item, list_of, read_list, closed_by, headed, read_heading, read_para, block, read_page}
use Rattle.sheet.proofs.Sound.{page_sound}
use Rattle.sheet.specs.Written.{escaped, written_runs, joined, rows_from, rows, written, blocks_of}
use Rattle.sheet.proofs.SheetReads.{sheet_reads}

abbrev page : List ℕ
page =
    str "<h5>News</h5>\n<p>a &lt;!-- <strong>b*</strong><code>c d</code>!<em>e</em></p><ol><li>one<ul><li><strong><em>x</em></strong></li></ul></li>\n<li>two</li></ol>"

abbrev tree : List Block
tree =
    heading 5 (run plain (str "News") ∷ [])
    ∷ para (run plain (str "a <!-- ") ∷ run strong (str "b*") ∷ run code (str "c d") ∷ run plain (str "!") ∷ run em (str "e") ∷ [])
    ∷ list ol (node (run plain (str "one") ∷ []) ul (leaf (run both (str "x") ∷ []) end) (leaf (run plain (str "two") ∷ []) end))
    ∷ []

read : read_page page ≡ some tree
unfolding many is_space is_control special shown singles first_is last_is fits apart first_letter last_no_blank neat own char referred text kind one_run line
    item list_of read_list closed_by headed read_heading read_para block read_page
read = refl

abbrev markdown : List ℕ
markdown = str "### News\n\na <\\!-- **b\\***`c d`\\!*e*\n\n1. one\n  - ***x***\n2. two"

written_so : written tree ≡ markdown
unfolding special escaped written_runs joined rows_from rows written digits
written_so = refl

small : size (written tree) < 16000
unfolding special escaped written_runs joined rows_from rows written digits size utf8
small = omega arith

pub by_theorem : blocks (written tree) ≡ blocks_of tree
by_theorem = sheet_reads (page_sound page tree read) small

pub by_computing : blocks markdown ≡ blocks_of tree
unfolding index take_while drop_while trim_end_matches is_space utf8 size digits S.flush link code_step star_step link_step image_step step walk spans_at spans
    is_rule marker_at list_marker comment cleaned lines replace flush md_heading paragraph continuation read_text read_line read_lines blocks rows_from rows blocks_of
by_computing = refl
