-- The written forms that the code counts: each row with the byte 10 before it, each block with both.
-- Assumes nothing.
use Rattle.std.specs.Prelude.{ℕ, suc, ◌≡◌, List, [], ◌∷◌, ◌++◌}
use Rattle.text.specs.Words.{str, repeat}
use Rattle.sheet.specs.Tree.{Run, Mark, ul, ol, Items, Item, alone, with, Block}
use Rattle.sheet.specs.Written.{Row, item, rows_from, lead, written_runs, written_row, written_block}
use Rattle.sheet.specs.declared.list.Mark as M
use Rattle.sheet.specs.declared.list.Mark.TheVariants as V

unfoldable pub led_rows : List Row → List ℕ
led_rows [] = []
led_rows (r ∷ rs) = (str "\n" ++ written_row r) ++ led_rows rs

-- an item at a depth and a place: its row, and those of the list in it
unfoldable pub item_form : ℕ → ℕ → Item → List ℕ
item_form d n (alone l) = led_rows (item d n l ∷ [])
item_form d n (with l m its) = led_rows (item d n l ∷ rows_from (suc d) m 1 its)

-- a list around whose own d lists are open
unfoldable pub list_form : ℕ → Mark × Items → List ℕ
list_form d x = led_rows (rows_from d x.0 1 x.1)

-- a line with n ASCII characters before it; which ones is nothing to its counts
abbrev pub led : ℕ → List Run → List ℕ
led n l = repeat n "#" ++ written_runs l

abbrev pub block_form : Block → List ℕ
block_form b = str "\n\n" ++ written_block b

-- what stands before an item's line
abbrev pub row_lead : ℕ → ℕ → List ℕ
row_lead d n = str "\n" ++ (repeat d "  " ++ lead n)

abbrev pub mark_of : M.Mark → Mark
mark_of V.Unordered = ul
mark_of V.Ordered = ol

abbrev pub IsMark : Mark → M.Mark → Type 0
IsMark m n = m ≡ mark_of n
