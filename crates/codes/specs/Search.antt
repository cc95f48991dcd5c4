-- Codes in a list of blocks (document 02, U10; READINGS-02, points 4 and 26): for each code the number, from 0, of the first block whose joined span
-- text contains it, and how many blocks a walk visits that ends after the block with which every code has its number, otherwise with the last block.
-- A code is its bytes, and they are looked for in the bytes of the text.
-- Assumes nothing.
use Rattle.std.specs.Prelude.{ℕ, suc, max, Bool, true, false, ◌&&◌, length, if◌then◌else◌}
use mathlib.Core.List.{List, [], ◌∷◌}
use Rattle.std.proofs.Math.Option.{Option, none, some}
use Rattle.text.specs.Words.{◌>>=◌, case, index}
use Rattle.text.specs.Utf8.{encode}
use Rattle.records.specs.Blocks.{Block, joined}

-- the bytes of a block's joined text
abbrev pub text_of : Block → List ℕ
text_of b = encode (joined b.spans)

abbrev pub is_some : Option ℕ → Bool
is_some o = case o false (λ n. true)

-- whether a code stands somewhere in a text
abbrev pub contains : List ℕ → List ℕ → Bool
contains code text = is_some (index code text)

-- a lone search: the number of the first block that contains the code
unfoldable pub first_block : List ℕ → List Block → Option ℕ
first_block code [] = none
first_block code (b ∷ bs) =
    let later = first_block code bs >>= (λ n. some (suc n)) in
    if contains code (text_of b) then some 0 else later

-- how many blocks it visits: up to that one, or all
unfoldable pub lone_visited : List ℕ → List Block → ℕ
lone_visited code bs = case (first_block code bs) (length bs) suc

-- one walk for all codes goes as far as the longest of the lone searches; without codes no block is visited
unfoldable pub visited : List (List ℕ) → List Block → ℕ
visited [] bs = 0
visited (c ∷ cs) bs = max (lone_visited c bs) (visited cs bs)

-- whether every code has its number
unfoldable pub all_found : List (List ℕ) → List Block → Bool
all_found [] bs = true
all_found (c ∷ cs) bs = is_some (first_block c bs) && all_found cs bs
