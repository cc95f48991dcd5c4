-- The records of a sheet's tree are at most eleven times as long as its written form. (One letter in a paragraph takes eleven bytes.)
-- Assumes nothing.
use Rattle.std.proofs.Common.{◌≡◌, refl, ap, ℕ, zero, suc, ◌+◌, ◌*◌, ◌≤◌, min, arith, true, List, [], ◌∷◌, ◌++◌, map, length, length-append}
use Rattle.text.specs.Words.{str}
use Rattle.text.specs.Utf8.{utf8, encode, size}
use Rattle.text.specs.Decimal.{decimal}
use Rattle.text.proofs.Laws.{size_append, size_encode}
use Rattle.text.proofs.Tests.{and_true}
use Rattle.records.specs.Blocks as B
use Rattle.records.specs.Format.{encode_span, encode_spans, encode_kind, encode_count, encode_block, encode_blocks}
use Rattle.records.proofs.FormatLaws.{blocks_append, form_long}
use Rattle.markdown.proofs.StateLaws.{count_small}
use Rattle.sheet.specs.Tree.{Kind, plain, strong, em, both, code, Run, run, Block}
use Rattle.sheet.specs.Grammar.{fits, IsPage}
use Rattle.sheet.specs.Written.{span, written_run, written_runs, Row, head, text, item, rows, lead, written_row, joined, written_block, written, marker, block_of, blocks_of}
use Rattle.sheet.proofs.Conditions.{filled_text}
use Rattle.sheet.proofs.ReadBack.{all_fit}
use Rattle.sheet.proofs.Fronts.{front_empty}
use Rattle.sheet.proofs.EachLine.{Entries, Lines, a_heading, a_para, a_list, Each}
use Rattle.sheet.proofs.EachLine as E
use Rattle.sheet.proofs.WrittenLines.{GoodRuns}
use Rattle.sheet.proofs.WrittenSize.{size_run, size_filled, size_item, size_head, size_joined, size_written}
use Rattle.sheet.proofs.SheetReads.{good_lines}

-- ---- spans
span_text : (k : Kind) (t : List ℕ) → (span (run k t)).text ≡ t
span_text plain t = refl
span_text strong t = refl
span_text em t = refl
span_text both t = refl
span_text code t = refl

span_long : (k : Kind) (t : List ℕ) → length (encode_span (span (run k t))) ≤ 5 + size t
unfolding encode_span
span_long k t = rw (span_text k t) (omega (arith, form_long (encode t), size_encode t))

spans_long : (l : List Run) → all_fit l ≡ true → length (encode_spans (map span l)) ≤ 6 * size (written_runs l)
unfolding encode_spans all_fit written_runs
spans_long [] e = omega arith
spans_long (run k t ∷ rs) e =
    let f = and_true (fits k t) (all_fit rs) e in
    omega (
      arith,
      length-append (encode_span (span (run k t))) (encode_spans (map span rs)),
      span_long k t,
      size_run k t,
      size_filled t (filled_text k t f.0),
      spans_long rs f.1,
      size_append (written_run (run k t)) (written_runs rs),
    )

-- ---- blocks
block_long : (k : B.Kind) (l : List Run) → all_fit l ≡ true
    → length (encode_block (record { kind = k; spans = map span l })) ≤ 5 + length (encode_kind k) + 6 * size (written_runs l)
unfolding encode_block
block_long k l e =
    let c = encode_count (length (map span l)) in
    omega (
      arith,
      length-append (encode_kind k ++ c) (encode_spans (map span l)),
      length-append (encode_kind k) c,
      count_small (length (map span l)),
      spans_long l e,
    )

item_long : (d : ℕ) (m : List ℕ) → length (encode_kind (B.item d m)) ≤ 3 + size m
item_long zero m = omega (arith, size_encode m)
item_long (suc d) m = omega (arith, size_encode m)

marker_long : (n : ℕ) → (size (marker n) ≤ 1 + size (lead n)) × (2 ≤ size (lead n))
unfolding size utf8
marker_long zero = (omega arith, omega arith)
marker_long (suc n) = (
  omega (arith, size_append (decimal (suc n)) (str "."), size_append (decimal (suc n)) (str ". ")),
  omega (arith, size_append (decimal (suc n)) (str ". ")),
)

some_runs : (l : List Run) → GoodRuns l → 1 ≤ size (written_runs l)
some_runs l g = size_filled (written_runs l) (front_empty g.good.front)

row_item : (d n : ℕ) (l : List Run) → GoodRuns l → length (encode_block (block_of (item d n l))) ≤ 11 * size (written_row (item d n l))
row_item d n l g =
    omega (arith, block_long (B.item d (marker n)) l g.fit, item_long d (marker n), marker_long n, size_item d n l)

row_head : (n : ℕ) (l : List Run) → GoodRuns l → length (encode_block (block_of (head n l))) ≤ 11 * size (written_row (head n l))
row_head n l g = omega (arith, block_long (B.heading n) l g.fit, size_head n l)

row_text : (l : List Run) → GoodRuns l → length (encode_block (block_of (text l))) ≤ 11 * size (written_row (text l))
row_text l g = omega (arith, block_long B.paragraph l g.fit, some_runs l g)

-- ---- rows, blocks, pages
one_block : (b : B.Block) → length (encode_blocks (b ∷ [])) ≡ length (encode_block b)
unfolding encode_blocks
one_block b = omega (arith, length-append (encode_block b) [])

more_blocks : (b : B.Block) (bs : List B.Block) → length (encode_blocks (b ∷ bs)) ≡ length (encode_block b) + length (encode_blocks bs)
unfolding encode_blocks
more_blocks b bs = length-append (encode_block b) (encode_blocks bs)

entries_long : {rs : List Row} → Entries GoodRuns rs → length (encode_blocks (map block_of rs)) ≤ 11 * size (joined (str "\n") (map written_row rs))
unfolding joined encode_blocks
entries_long E.none = omega arith
entries_long (E.one {d} {n} {l} b h E.none) = omega (arith, one_block (block_of (item d n l)), row_item d n l h)
entries_long (E.one {d} {n} {l} b h (E.one {d = e} {n = k} {l = j} {rs = rs} c i es)) =
    let ih = entries_long (E.one {d = e} {n = k} {l = j} {rs = rs} c i es) in
    omega (arith, ih, more_blocks (block_of (item d n l)) (map block_of (item e k j ∷ rs)), row_item d n l h, size_joined (item d n l) (item e k j) rs)

rows_long : {b : Block} → Lines GoodRuns b → length (encode_blocks (map block_of (rows b))) ≤ 11 * size (written_block b)
unfolding rows joined
rows_long (a_heading {n} {l} lo g) = omega (arith, one_block (block_of (head (min n 3) l)), row_head (min n 3) l g)
rows_long (a_para {l} g) = omega (arith, one_block (block_of (text l)), row_text l g)
rows_long (a_list it its e) = entries_long e

all_long : (bs : List Block) → Each GoodRuns bs → length (encode_blocks (blocks_of bs)) ≤ 11 * size (written bs)
unfolding blocks_of written joined encode_blocks
all_long [] E.none = omega arith
all_long (b ∷ []) (E.one h e) = omega (arith, ap length (blocks_append (map block_of (rows b)) []), length-append (encode_blocks (map block_of (rows b))) (encode_blocks []), rows_long h)
all_long (b ∷ c ∷ bs) (E.one h e) =
    omega (
      arith,
      ap length (blocks_append (map block_of (rows b)) (blocks_of (c ∷ bs))),
      length-append (encode_blocks (map block_of (rows b))) (encode_blocks (blocks_of (c ∷ bs))),
      rows_long h,
      all_long (c ∷ bs) e,
      size_written b c bs,
    )

pub sheet_records : {s : List ℕ} {t : List Block} → IsPage s t → length (encode_blocks (blocks_of t)) ≤ 11 * size (written t)
sheet_records {t = t} p = all_long t (good_lines p)
