-- A sheet's page is not much longer than its written form: each byte written stands for at most 41 of the page.
-- Assumes nothing.
use Rattle.std.proofs.Common.{◌≡◌, ◌∙◌, ap, ℕ, zero, suc, ◌+◌, ◌*◌, ◌≤◌, min, arith, true, List, [], ◌∷◌, ◌++◌, map}
use Rattle.text.specs.Words.{str}
use Rattle.text.specs.Chars.{is_letter}
use Rattle.text.specs.Utf8.{utf8, size}
use Rattle.text.proofs.Laws.{utf8_size, size_append}
use Rattle.text.proofs.Tests.{false_true}
use Rattle.sheet.specs.Tree.{Kind, plain, strong, em, both, code, Run, run, Mark, ul, ol, Items, Item, items, Block, heading, para, list}
use Rattle.sheet.specs.Grammar as G
use Rattle.sheet.specs.Grammar.{NL, Char, Many, stop, more, Text, IsRun, is_run, Line, ThenNL, IsItem, is_alone, is_with, ListOf, IsList, IsBlock, is_heading, is_para, IsPage}
use Rattle.sheet.specs.Grammar.{concat, first_is, first_letter, before, after, opens, closes, opens_h, closes_h}
use Rattle.sheet.specs.Written.{sign, written_run, written_runs, Row, place, rows_from, rows, written_row, joined, written_block, written}
use Rattle.sheet.proofs.Conditions.{neat_of}
use Rattle.sheet.proofs.WrittenSize.{size_run, size_item, size_head}
use Rattle.sheet.proofs.ListOut.{own_row, sub_rows, rows_cons}

-- a text

char_size : {s q r : List ℕ} → Char s q r → size s ≤ size r + 6 * size q
unfolding size utf8
char_size G.&lt = omega arith
char_size G.&amp = omega arith
char_size G.&gt = omega arith
char_size G.&quot = omega arith
char_size G.blank = omega arith
char_size (G.own c f) = omega arith

chars_size : {s r : List ℕ} {qs : List (List ℕ)} → Many Char s qs r → size s ≤ size r + 6 * size (concat qs)
unfolding size
chars_size stop = omega arith
chars_size (more {x = q} {xs = qs} c t) = omega (arith, char_size c, chars_size t, size_append q (concat qs))

text_size : {s t r : List ℕ} → Text s t r → size s ≤ size r + 6 * size t
text_size (G.text m) = chars_size m

-- a run, whose tags take 7 bytes or fewer for each byte of its signs

tags_size : (k : Kind) → size (before k) + size (after k) ≤ 7 * size (sign k) + 7 * size (sign k)
unfolding size utf8
tags_size plain = omega arith
tags_size strong = omega arith
tags_size em = omega arith
tags_size both = omega arith
tags_size code = omega arith

run_size : {s r : List ℕ} {x : Run} → IsRun s x r → size s ≤ size r + 7 * size (written_run x)
run_size {r = r} (is_run {s = s} {t = t} k T f) = omega (arith, size_append (before k) s, size_append (after k) r, text_size T, tags_size k, size_run k t)

runs_size : {s r : List ℕ} {rs : List Run} → Many IsRun s rs r → size s ≤ size r + 7 * size (written_runs rs)
unfolding written_runs size
runs_size stop = omega arith
runs_size (more {x = x} {xs = rs} h ms) = omega (arith, run_size h, runs_size ms, size_append (written_run x) (written_runs rs))

-- a line has at least one byte

text_full : (t : List ℕ) → first_is is_letter t ≡ true → 1 ≤ size t
unfolding first_is size
text_full [] f = false_true f
text_full (a ∷ t) f = omega (arith, (utf8_size a).0)

runs_full : (rs : List Run) → first_letter rs ≡ true → 1 ≤ size (written_runs rs)
unfolding first_letter written_runs
runs_full [] f = false_true f
runs_full (run k t ∷ rs) f = omega (arith, text_full t f, size_run k t, size_append (written_run (run k t)) (written_runs rs))

record LineSize (s : List ℕ) (rs : List Run) (r : List ℕ) : Type 0 where
  most : size s ≤ size r + 7 * size (written_runs rs)
  full : 1 ≤ size (written_runs rs)

line_size : {s r : List ℕ} {rs : List Run} → Line s rs r → LineSize s rs r
line_size {rs = rs} (G.line m f) = record { most = runs_size m; full = runs_full rs (neat_of rs f).first }

nl_size : {s r : List ℕ} → NL s r → size s ≤ size r + 1
unfolding size utf8
nl_size G.no_nl = omega arith
nl_size G.nl = omega arith

-- rows

unfoldable weight : List Row → ℕ
weight [] = 0
weight (r ∷ rs) = size (written_row r) + weight rs

weight_append : (a b : List Row) → weight (a ++ b) ≡ weight a + weight b
unfolding weight
weight_append [] b = omega arith
weight_append (r ∷ a) b = omega (arith, weight_append a b)

joined_size : (sep x : List ℕ) (l : List (List ℕ)) → size x + size (joined sep l) ≤ size (joined sep (x ∷ l))
unfolding joined size
joined_size sep x [] = omega arith
joined_size sep x (y ∷ l) = omega (arith, size_append x (sep ++ joined sep (y ∷ l)), size_append sep (joined sep (y ∷ l)))

joined_weight : (rs : List Row) → weight rs ≤ size (joined (str "\n") (map written_row rs))
unfolding weight
joined_weight [] = omega arith
joined_weight (r ∷ rs) = omega (arith, joined_weight rs, joined_size (str "\n") (written_row r) (map written_row rs))

-- an item with its list, and a list: each list's tags are paid for by the item that it stands in

record ListSize (s : List ℕ) (m : Mark) (its : Items) (r : List ℕ) (d : ℕ) : Type 0 where
  most : size s ≤ size r + 10 + 30 * weight (rows_from d m 1 its)
  full : 1 ≤ weight (rows_from d m 1 its)

abbrev ListsSize : (List ℕ → Mark → Items → List ℕ → Type 0) → Type 0
ListsSize L = (s : List ℕ) (m : Mark) (its : Items) (r : List ℕ) → L s m its r → (d : ℕ) → ListSize s m its r d

pub opens_size : (m : Mark) (s : List ℕ) → size (opens m ++ s) ≡ size s + 4
unfolding size utf8
opens_size ul s = omega arith
opens_size ol s = omega arith

closes_size : (m : Mark) (s : List ℕ) → size (closes m ++ s) ≡ size s + 5
unfolding size utf8
closes_size ul s = omega arith
closes_size ol s = omega arith

pub li_size : (s : List ℕ) → size (str "<li>" ++ s) ≡ size s + 4
unfolding size utf8
li_size s = omega arith

li/-size : (s : List ℕ) → size (str "</li>" ++ s) ≡ size s + 5
unfolding size utf8
li/-size s = omega arith

record ItemSize (s : List ℕ) (it : Item) (r : List ℕ) (d : ℕ) (m : Mark) (n : ℕ) : Type 0 where
  most : size s + 1 ≤ size r + 30 * weight (own_row d m n it ∷ sub_rows d it)
  full : 1 ≤ weight (own_row d m n it ∷ sub_rows d it)

module _ (L : List ℕ → Mark → Items → List ℕ → Type 0) (lists : ListsSize L) where
  item_size : {s r : List ℕ} {it : Item} → IsItem L s it r → (d : ℕ) (m : Mark) (n : ℕ) → ItemSize s it r d m n
  unfolding weight
  item_size (is_alone {s = s} {r = r} {l = l} ln) d m n =
      let g = line_size ln in
      record { most = omega (arith, li_size s, li/-size r, g.most, g.full, size_item d (place m n) l); full = omega (arith, g.full, size_item d (place m n) l) }
  item_size (is_with {s = s} {s₂ = s₂} {s₃ = s₃} {r = r} {l = l} {m = k} {its = its} ln a q b) d m n =
      let g = line_size ln in
      let j = lists s₂ k its s₃ q (suc d) in
      record {
        most = omega (arith, li_size s, li/-size r, g.most, g.full, size_item d (place m n) l, nl_size a, nl_size b, j.most);
        full = omega (arith, g.full, size_item d (place m n) l);
      }

  items_size : {s r : List ℕ} {xs : List Item} → Many (ThenNL (IsItem L)) s xs r → (d : ℕ) (m : Mark) (n : ℕ) → size s ≤ size r + 30 * weight (rows_from d m n (items xs))
  items_size stop d m n = omega arith
  items_size (more {x = it} {xs = its} (G.then h k) ms) d m n =
      let g = item_size h d m n in
      let e = ap weight (rows_cons d m n it its) ∙ weight_append (own_row d m n it ∷ sub_rows d it) (rows_from d m (suc n) (items its)) in
      omega (arith, g.most, nl_size k, items_size ms d m (suc n), e)

  items_full : {s r : List ℕ} {it : Item} {its : List Item} → Many (ThenNL (IsItem L)) s (it ∷ its) r → (d : ℕ) (m : Mark) (n : ℕ) → 1 ≤ weight (rows_from d m n (items (it ∷ its)))
  items_full {it = it} {its = its} (more (G.then h k) ms) d m n =
      let g = item_size h d m n in
      let e = ap weight (rows_cons d m n it its) ∙ weight_append (own_row d m n it ∷ sub_rows d it) (rows_from d m (suc n) (items its)) in
      omega (arith, g.full, e)

  list_size : ListsSize (ListOf (IsItem L))
  list_size s _ _ r (G.is_list {s = s₀} {it = it} {its = xs} m n q) d =
      record {
        most = omega (arith, opens_size m s₀, nl_size n, items_size q d m 1, closes_size m r);
        full = items_full q d m 1;
      }

lists_size : (d : ℕ) → ListsSize (IsList d)
lists_size zero s m its r h = absurd h
lists_size (suc d) s m its r h = list_size (IsList d) (lists_size d) s m its r h

-- blocks

heading_tags : (n : ℕ) (s : List ℕ) → (size (opens_h n ++ s) ≤ size s + 7) × (size (closes_h n ++ s) ≤ size s + 8)
unfolding size utf8
heading_tags n s = let h = utf8_size (48 + n) in (omega arith, omega arith)

para_tags : (s : List ℕ) → (size (str "<p>" ++ s) ≡ size s + 3) × (size (str "</p>" ++ s) ≡ size s + 4)
unfolding size utf8
para_tags s = (omega arith, omega arith)

heading_block : (n : ℕ) (l : List Run) → size (written_runs l) ≤ size (written_block (heading n l))
unfolding joined rows
heading_block n l = omega (arith, size_head (min n 3) l)

para_block : (l : List Run) → size (written_runs l) ≤ size (written_block (para l))
unfolding joined rows
para_block l = omega arith

list_block : (m : Mark) (its : Items) → weight (rows_from 0 m 1 its) ≤ size (written_block (list m its))
unfolding rows
list_block m its = joined_weight (rows_from 0 m 1 its)

block_size : {s r : List ℕ} {b : Block} → IsBlock s b r → size s + 1 ≤ size r + 41 * size (written_block b)
block_size (is_heading {s = s} {r = r} {l = l} n lo hi ln) =
    let g = line_size ln in
    omega (arith, (heading_tags n s).0, (heading_tags n r).1, g.most, g.full, heading_block n l)
block_size (is_para {s = s} {r = r} {l = l} ln) =
    let g = line_size ln in
    omega (arith, (para_tags s).0, (para_tags r).1, g.most, g.full, para_block l)
block_size {s = s} {r = r} (G.is_list {m = m} {its = its} h) =
    let g = lists_size 8 s m its r h 0 in
    omega (arith, g.most, g.full, list_block m its)

blocks_size : {s : List ℕ} {bs : List Block} → Many (ThenNL IsBlock) s bs [] → size s ≤ 41 * size (written bs)
unfolding size written
blocks_size stop = omega arith
blocks_size (more {x = b} {xs = bs} (G.then h n) ms) =
    omega (arith, block_size h, nl_size n, blocks_size ms, joined_size (str "\n\n") (written_block b) (map written_block bs))

pub page_size : {s : List ℕ} {bs : List Block} → IsPage s bs → size s ≤ 1 + 41 * size (written bs)
page_size (G.page n ms) = omega (arith, nl_size n, blocks_size ms)
