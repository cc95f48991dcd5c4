-- Reading the lines of a written form gives the blocks of its tree.
-- Assumes nothing.
use Rattle.std.proofs.Common.{◌≡◌, refl, sym, ◌∙◌, ap, ℕ, zero, suc, ◌≤◌, min, arith, List, [], ◌∷◌, ◌++◌, map, reverse, append-nil, append_assoc, length}
use mathlib.Core.List.{reverse_aux, reverse_aux-append, reverse-reverse}
use Rattle.text.specs.Words.{str, repeat}
use Rattle.text.specs.Decimal.{decimal}
use Rattle.records.specs.Blocks as B
use Rattle.records.specs.Blocks.{Span, Heading, Paragraph}
use Rattle.markdown.specs.Blocks.{cleaned, lines, Reader, reader, flush, read_line, read_lines, blocks}
use Rattle.markdown.proofs.LineLaws.{flush_end}
use Rattle.sheet.specs.Tree.{Run, items, Block}
use Rattle.sheet.specs.Written.{span, written_runs, Row, head, text, item, rows_from, rows, written_row, written, marker, block_of, blocks_of}
use Rattle.sheet.proofs.AllChars.{decimal_all, decimal_some}
use Rattle.sheet.proofs.Fronts.{front_empty}
use Rattle.sheet.proofs.PageRead.{read_para, read_blank, flush_para, read_heading, read_dash, read_number}
use Rattle.sheet.proofs.EachLine.{Entries, Lines, a_heading, a_para, a_list, Each}
use Rattle.sheet.proofs.EachLine as E
use Rattle.sheet.proofs.WrittenLines.{GoodRuns, line_list, lines_written}

-- no place of the tree has more than nine digits
abbrev pub Short : Row → Type 0
Short (head n l) = Unit {0}
Short (text l) = Unit {0}
Short (item d n l) = length (decimal n) ≤ 9

abbrev pub AllShort : List Row → Type 0
AllShort [] = Unit {0}
AllShort (r ∷ rs) = Short r × AllShort rs

abbrev pub Shorts : List Block → Type 0
Shorts [] = Unit {0}
Shorts (b ∷ bs) = AllShort (rows b) × Shorts bs

-- ---- items
read_item : (b : List B.Block) (d n : ℕ) (l : List Run) → GoodRuns l → length (decimal n) ≤ 9
    → read_line (reader b []) (written_row (item d n l)) ≡ reader (block_of (item d n l) ∷ b) []
read_item b d zero l g h =
    read_dash b d (written_runs l) g.good ∙ ap (λ (s : List Span). reader (B.Item d (marker 0) s ∷ b) []) g.spans_are
read_item b d (suc n) l g h =
    ap (λ (x : List ℕ). read_line (reader b []) (repeat d "  " ++ x)) (append_assoc (decimal (suc n)) (str ". ") (written_runs l))
    ∙ read_number b d (decimal (suc n)) (written_runs l) (decimal_all (suc n)) (decimal_some (suc n)) h g.good
    ∙ ap (λ (s : List Span). reader (B.Item d (marker (suc n)) s ∷ b) []) g.spans_are

read_entries : {rs : List Row} → Entries GoodRuns rs → AllShort rs → (b : List B.Block) (ls : List (List ℕ))
    → read_lines (reader b []) (map written_row rs ++ ls) ≡ read_lines (reader (reverse_aux (map block_of rs) b) []) ls
unfolding read_lines
read_entries E.none h b ls = refl
read_entries (E.one {d} {n} {l} {rs} i g e) h b ls =
    ap (λ (r : Reader). read_lines r (map written_row rs ++ ls)) (read_item b d n l g h.0)
    ∙ read_entries e h.1 (block_of (item d n l) ∷ b) ls

-- ---- a block: the state after it, and its blocks once that is flushed
record BlockRead (b : Block) (o : List B.Block) (ls : List (List ℕ)) : Type 0 where
  state : Reader
  eq : read_lines (reader o []) (map written_row (rows b) ++ ls) ≡ read_lines state ls
  flushed : flush state ≡ reverse_aux (map block_of (rows b)) o

read_block : {b : Block} → Lines GoodRuns b → AllShort (rows b) → (o : List B.Block) (ls : List (List ℕ)) → BlockRead b o ls
unfolding rows read_lines
read_block (a_heading {n} {l} lo g) h o ls =
    record {
      state = reader (Heading (min n 3) (map span l) ∷ o) [];
      eq =
          ap (λ (r : Reader). read_lines r ls) (read_heading o (min n 3) (written_runs l) (omega arith) (omega arith) g.good
          ∙ ap (λ (s : List Span). reader (Heading (min n 3) s ∷ o) []) g.spans_are);
      flushed = flush_end (Heading (min n 3) (map span l) ∷ o);
    }
read_block (a_para {l} g) h o ls =
    record {
      state = reader o (written_runs l);
      eq = ap (λ (r : Reader). read_lines r ls) (read_para o (written_runs l) g.good);
      flushed = flush_para o (written_runs l) (front_empty g.good.front) ∙ ap (λ (s : List Span). Paragraph s ∷ o) g.spans_are;
    }
read_block (a_list {m = m} it its e) h o ls =
    record {
      state = reader (reverse_aux (map block_of (rows_from 0 m 1 (items (it ∷ its)))) o) [];
      eq = read_entries e h o ls;
      flushed = flush_end (reverse_aux (map block_of (rows_from 0 m 1 (items (it ∷ its)))) o);
    }

-- ---- a page
start : (o : List B.Block) → flush (read_lines (reader o []) []) ≡ o
unfolding read_lines flush
start o = refl

stopped : (r : Reader) → read_lines r [] ≡ r
unfolding read_lines
stopped r = refl

after_blank : (r : Reader) (ls : List (List ℕ)) → read_lines r ([] ∷ ls) ≡ read_lines (reader (flush r) []) ls
unfolding read_lines
after_blank r ls = ap (λ (r : Reader). read_lines r ls) (read_blank r)

read_all : (bs : List Block) → Each GoodRuns bs → Shorts bs → (o : List B.Block) → flush (read_lines (reader o []) (line_list bs)) ≡ reverse_aux (blocks_of bs) o
unfolding line_list blocks_of
read_all [] E.none h o = start o
read_all (b ∷ []) (E.one g e) h o =
    let d = read_block g h.0 o [] in
    ap (λ (ls : List (List ℕ)). flush (read_lines (reader o []) ls)) (sym (append-nil (map written_row (rows b))))
    ∙ ap flush (d.eq ∙ stopped d.state)
    ∙ d.flushed
    ∙ ap (λ (x : List B.Block). reverse_aux x o) (sym (append-nil (map block_of (rows b))))
read_all (b ∷ c ∷ bs) (E.one g e) h o =
    let d = read_block g h.0 o ([] ∷ line_list (c ∷ bs)) in
    ap flush (d.eq ∙ after_blank d.state (line_list (c ∷ bs)))
    ∙ ap (λ (p : List B.Block). flush (read_lines (reader p []) (line_list (c ∷ bs)))) d.flushed
    ∙ read_all (c ∷ bs) e h.1 (reverse_aux (map block_of (rows b)) o)
    ∙ sym (reverse_aux-append (map block_of (rows b)) (blocks_of (c ∷ bs)) o)

-- reading a written form that no comment starts in gives its tree's blocks
pub read_back : (bs : List Block) → Each GoodRuns bs → Shorts bs → cleaned 0 (written bs) ≡ written bs → blocks (written bs) ≡ blocks_of bs
unfolding blocks
read_back bs g h c =
    ap (λ (s : List ℕ). reverse (flush (read_lines (reader [] []) (lines s)))) c
    ∙ ap (λ (ls : List (List ℕ)). reverse (flush (read_lines (reader [] []) ls))) (lines_written bs g)
    ∙ ap reverse (read_all bs g h [])
    ∙ reverse-reverse (blocks_of bs)
