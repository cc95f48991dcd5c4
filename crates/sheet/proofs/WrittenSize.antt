-- How many bytes are written: of a text, a run, a row, rows and blocks.
-- Assumes nothing.
use Rattle.std.proofs.Common.{◌≡◌, sym, ℕ, ◌+◌, ◌≤◌, arith, false, List, [], ◌∷◌, ◌++◌, map}
use Rattle.std.proofs.lemmas.Bool.Decides.{nat_tests}
use Rattle.text.specs.Words.{str, repeat, is_empty}
use Rattle.text.specs.Utf8.{utf8, size}
use Rattle.text.proofs.Tests.{false_true}
use Rattle.text.proofs.Laws.{utf8_size, size_append}
use Rattle.sheet.specs.Tree.{Kind, Run, run, Block}
use Rattle.sheet.specs.Written.{escaped, sign, written_run, written_runs, Row, head, item, lead, written_row, joined, written_block, written}

-- ---- a text is no longer than what is written of it
size_escaped : (t : List ℕ) → size t ≤ size (escaped t)
unfolding escaped size
size_escaped [] = omega arith
size_escaped (x ∷ t) = let i = size_escaped t in grind (arith, nat_tests)

pub size_run : (k : Kind) (t : List ℕ) → size (sign k) + size (sign k) + size t ≤ size (written_run (run k t))
size_run k t =
    omega (arith, size_escaped t, size_append (sign k) (escaped t ++ sign k), size_append (escaped t) (sign k))

pub size_filled : (t : List ℕ) → is_empty t ≡ false → 1 ≤ size t
unfolding size
size_filled [] e = false_true (sym e)
size_filled (c ∷ t) e = omega (arith, utf8_size c)

-- ---- rows and blocks
pub size_item : (d n : ℕ) (l : List Run) → size (written_row (item d n l)) ≡ size (repeat d "  ") + size (lead n) + size (written_runs l)
size_item d n l = omega (arith, size_append (repeat d "  ") (lead n ++ written_runs l), size_append (lead n) (written_runs l))

pub size_head : (n : ℕ) (l : List Run) → size (written_row (head n l)) ≡ size (repeat n "#") + 1 + size (written_runs l)
unfolding size utf8
size_head n l = omega (arith, size_append (repeat n "#") (32 ∷ written_runs l))

-- rows one below the other
pub size_joined : (r q : Row) (rs : List Row)
    → size (joined (str "\n") (map written_row (r ∷ q ∷ rs))) ≡ size (written_row r) + 1 + size (joined (str "\n") (map written_row (q ∷ rs)))
unfolding joined size utf8
size_joined r q rs = omega (arith, size_append (written_row r) (10 ∷ joined (str "\n") (map written_row (q ∷ rs))))

-- blocks with a gap between them
pub size_written : (b c : Block) (bs : List Block) → size (written (b ∷ c ∷ bs)) ≡ size (written_block b) + 2 + size (written (c ∷ bs))
unfolding written joined size utf8
size_written b c bs = omega (arith, size_append (written_block b) (10 ∷ 10 ∷ written (c ∷ bs)))
