-- The written form of a tree, and its blocks (document 01, "Sheet": "Tree" and "Written form").
-- Assumes nothing.
use Rattle.std.specs.Prelude.{ℕ, zero, suc, min, true, false, List, [], ◌∷◌, ◌++◌, map, if◌then◌else◌}
use Rattle.text.specs.Words.{str, repeat}
use Rattle.text.specs.Decimal.{decimal}
use Rattle.html.specs.State.{special}
use Rattle.records.specs.Blocks as B
use Rattle.records.specs.Blocks.{Span, Heading, Paragraph}
use Rattle.sheet.specs.Tree.{Kind, plain, strong, em, both, code, Run, run, Mark, ul, ol, Items, end, leaf, node, Block, heading, para, list}

-- A tree's rows: one for each line of the written form.
pub data Row : Type 0 where
  head : ℕ → List Run → Row
  text : List Run → Row
  -- depth, and the place from 1 in an ol, 0 in a ul
  item : ℕ → ℕ → List Run → Row

abbrev pub place : Mark → ℕ → ℕ
place ul n = 0
place ol n = n

-- the items from the one at place n on; d lists are open around their own
unfoldable pub rows_from : ℕ → Mark → ℕ → Items → List Row
rows_from d m n end = []
rows_from d m n (leaf l its) = item d (place m n) l ∷ rows_from d m (suc n) its
rows_from d m n (node l k sub its) = item d (place m n) l ∷ (rows_from (suc d) k 1 sub ++ rows_from d m (suc n) its)

-- heading level is the smaller of N and 3
unfoldable pub rows : Block → List Row
rows (heading n l) = head (min n 3) l ∷ []
rows (para l) = text l ∷ []
rows (list m its) = rows_from 0 m 1 its

-- `\` before each of \ * [ ! and the backtick
unfoldable pub escaped : List ℕ → List ℕ
escaped [] = []
escaped (c ∷ t) = (if special c then str "\\" ++ (c ∷ []) else c ∷ []) ++ escaped t

abbrev pub sign : Kind → List ℕ
sign plain = []
sign strong = str "**"
sign em = str "*"
sign both = str "***"
sign code = str "`"

abbrev pub written_run : Run → List ℕ
written_run (run k t) = sign k ++ (escaped t ++ sign k)

unfoldable pub written_runs : List Run → List ℕ
written_runs [] = []
written_runs (r ∷ rs) = written_run r ++ written_runs rs

-- `- `, or the place and `. `
abbrev pub lead : ℕ → List ℕ
lead zero = str "- "
lead (suc n) = decimal (suc n) ++ str ". "

abbrev pub written_row : Row → List ℕ
written_row (head n l) = repeat n "#" ++ (str " " ++ written_runs l)
written_row (text l) = written_runs l
written_row (item d n l) = repeat d "  " ++ (lead n ++ written_runs l)

-- one after the other, with something between
unfoldable pub joined : List ℕ → List (List ℕ) → List ℕ
joined sep [] = []
joined sep (x ∷ []) = x
joined sep (x ∷ y ∷ l) = x ++ (sep ++ joined sep (y ∷ l))

-- byte 10 between items of one outermost list, two elsewhere
abbrev pub written_block : Block → List ℕ
written_block b = joined (str "\n") (map written_row (rows b))

unfoldable pub written : List Block → List ℕ
written bs = joined (str "\n\n") (map written_block bs)

-- each run is one span
abbrev pub span : Run → Span
span (run plain t) = record { text = t; bold = false; italic = false; code = false }
span (run strong t) = record { text = t; bold = true; italic = false; code = false }
span (run em t) = record { text = t; bold = false; italic = true; code = false }
span (run both t) = record { text = t; bold = true; italic = true; code = false }
span (run code t) = record { text = t; bold = false; italic = false; code = true }

-- U+2022, or the place and a full stop
abbrev pub marker : ℕ → List ℕ
marker zero = str "•"
marker (suc n) = decimal (suc n) ++ str "."

abbrev pub block_of : Row → B.Block
block_of (head n l) = Heading n (map span l)
block_of (text l) = Paragraph (map span l)
block_of (item d n l) = B.Item d (marker n) (map span l)

unfoldable pub blocks_of : List Block → List B.Block
blocks_of [] = []
blocks_of (b ∷ bs) = map block_of (rows b) ++ blocks_of bs
