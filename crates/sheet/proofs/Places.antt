-- The place of an item in a written form of fewer than 16,000 bytes has at most nine digits.
-- Assumes nothing.
use Rattle.std.proofs.Common.{ℕ, suc, ◌+◌, ◌≤◌, ◌<◌, arith, List, [], ◌∷◌, ◌++◌, map, length, length-append}
use Rattle.text.specs.Words.{str}
use Rattle.text.specs.Utf8.{size}
use Rattle.text.specs.Decimal.{decimal}
use Rattle.sheet.specs.Tree.{Mark, ul, ol, Items, end, leaf, node, items, Block}
use Rattle.sheet.specs.Written.{Row, place, rows_from, rows, written_row, joined, written_block, written}
use Rattle.sheet.proofs.PageRead.{empty_some}
use Rattle.text.proofs.Laws.{size_length}
use Rattle.text.proofs.DecimalLaws.{digits_few}
use Rattle.sheet.proofs.EachLine.{Lines, a_heading, a_para, a_list, Each}
use Rattle.sheet.proofs.EachLine as E
use Rattle.sheet.proofs.WrittenLines.{GoodRuns, Rows, entry_rows}
use Rattle.sheet.proofs.WrittenLines as W
use Rattle.sheet.proofs.ReadAll.{AllShort, Shorts}

-- ---- digits
pub five_digits : (n : ℕ) → n < 100000 → length (decimal n) ≤ 9
five_digits n l = let h = digits_few (suc n) 4 n l in omega arith

-- ---- places: there are no more items than bytes
short_append : (a b : List Row) → AllShort a → AllShort b → AllShort (a ++ b)
short_append [] b h g = g
short_append (r ∷ a) b h g = (h.0, short_append a b h.1 g)

place_short : (m : Mark) (n : ℕ) → n < 100000 → length (decimal (place m n)) ≤ 9
place_short ul n l = five_digits 0 (omega arith)
place_short ol n l = five_digits n l

rows_short : (its : Items) (d : ℕ) (m : Mark) (n : ℕ) → 1 ≤ n → n + length (rows_from d m n its) ≤ 100000 → AllShort (rows_from d m n its)
unfolding rows_from
rows_short end d m n o l = tt
rows_short (leaf r its) d m n o l = (place_short m n (omega arith), rows_short its d m (suc n) (omega arith) (omega arith))
rows_short (node r k sub its) d m n o l =
    let a = length-append (rows_from (suc d) k 1 sub) (rows_from d m (suc n) its) in (
      place_short m n (omega arith),
      short_append (rows_from (suc d) k 1 sub) (rows_from d m (suc n) its)
          (rows_short sub (suc d) k 1 (omega arith) (omega arith))
          (rows_short its d m (suc n) (omega arith) (omega arith)),
    )

rows_fit : (rs : List Row) → Rows rs → length rs ≤ length (joined (str "\n") (map written_row rs))
unfolding joined
rows_fit [] W.none = omega arith
rows_fit (r ∷ []) (W.one h e) = omega (arith, empty_some (written_row r) h.filled)
rows_fit (r ∷ q ∷ rs) (W.one h e) =
    omega (arith, empty_some (written_row r) h.filled, rows_fit (q ∷ rs) e, length-append (written_row r) (10 ∷ joined (str "\n") (map written_row (q ∷ rs))))

block_short : {b : Block} → Lines GoodRuns b → length (written_block b) < 16000 → AllShort (rows b)
unfolding rows
block_short (a_heading lo g) l = (tt, tt)
block_short (a_para g) l = (tt, tt)
block_short (a_list {m = m} it its e) l =
    rows_short (items (it ∷ its)) 0 m 1 (omega arith) (omega (arith, rows_fit (rows_from 0 m 1 (items (it ∷ its))) (entry_rows e)))

shorts : (bs : List Block) → Each GoodRuns bs → length (written bs) < 16000 → Shorts bs
unfolding written joined
shorts [] E.none l = tt
shorts (b ∷ []) (E.one h e) l = (block_short h l, tt)
shorts (b ∷ c ∷ bs) (E.one h e) l =
    let a = length-append (written_block b) (10 ∷ 10 ∷ written (c ∷ bs)) in
    (block_short h (omega arith), shorts (c ∷ bs) e (omega arith))

pub places_short : (bs : List Block) → Each GoodRuns bs → size (written bs) < 16000 → Shorts bs
places_short bs g l = shorts bs g (omega (arith, size_length (written bs)))
