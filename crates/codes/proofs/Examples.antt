-- Closed examples of the definitions, by computation: the call on short records.
-- Assumes nothing.
use Prim.Native.Nat.{ℕ}
use mathlib.Core.Path.{◌≡◌, refl}
use mathlib.Core.List.{List, [], ◌∷◌, ◌++◌}
use mathlib.Core.Option.{Option, none, some}
use lib.ListN.{replicate}
use Rattle.text.specs.Words.{str, index}
use Rattle.text.specs.Utf8.{utf8}
use Rattle.records.proofs.Examples.{block_opened, titled, itemized}
use Rattle.walker.specs.Answers.{Answer, refused, gives, found_at}
use Rattle.codes.specs.Search.{first_block, lone_visited, visited, all_found}
use Rattle.codes.specs.Calls.{are_codes, read_from, reading, FoundValues, sixteen, search, codes_answer}

-- `# T`, an item without text, and one whose two spans are `é` and `x`
abbrev three : List ℕ
three = titled ++ itemized

-- a byte that starts no block
abbrev broken : List ℕ
broken = 0x10 ∷ []

abbrev found : ℕ → List (Option ℕ) → Answer FoundValues
found v ns = gives (record { visited = v; blocks = sixteen ns })

pub called : (codes_answer three (str "T") (1 ∷ []) ≡ found 1 (some 0 ∷ []))
    × (codes_answer three (0xC3 ∷ 0xA9 ∷ 0x78 ∷ []) (3 ∷ []) ≡ found 3 (some 2 ∷ []))  -- across spans
    × (codes_answer three (0xA9 ∷ 0x78 ∷ 0x54 ∷ []) (2 ∷ 1 ∷ []) ≡ found 3 (some 2 ∷ some 0 ∷ []))  -- from inside a character on
    × (codes_answer (itemized ++ titled) (str "xT") (1 ∷ 1 ∷ []) ≡ found 3 (some 1 ∷ some 2 ∷ []))  -- not in the first block
    × (codes_answer three (str "TqT") (1 ∷ 1 ∷ 1 ∷ []) ≡ found 3 (some 0 ∷ none ∷ some 0 ∷ []))  -- one twice, and one that is nowhere
    × (codes_answer (three ++ titled) (str "T") (1 ∷ []) ≡ found 1 (some 0 ∷ []))  -- the first of two
    × (codes_answer (titled ++ broken) (str "T") (1 ∷ []) ≡ found 1 (some 0 ∷ []))  -- a broken block behind the walk
    × (codes_answer (titled ++ broken) (str "Tx") (1 ∷ 1 ∷ []) ≡ refused 7)  -- and before its end
    × (codes_answer broken [] [] ≡ found 0 [])  -- no codes
    × (codes_answer [] (str "T") (1 ∷ []) ≡ found 0 (none ∷ []))
    × (codes_answer titled (replicate 32 0x54) (replicate 16 2) ≡ found 1 (replicate 16 none))
    × (codes_answer broken (replicate 17 0x54) (replicate 17 1) ≡ refused 10)  -- 17 codes
    × (codes_answer broken (replicate 33 0x54) (33 ∷ []) ≡ refused 10)  -- one of 33 bytes
    × (codes_answer broken [] (0 ∷ []) ≡ refused 10)  -- one without bytes
    × (codes_answer broken (str "T") (2 ∷ []) ≡ refused 10)  -- fewer bytes than the lengths say
    × (codes_answer broken (str "TT") (1 ∷ []) ≡ refused 10)  -- more
unfolding codes_answer are_codes search reading read_from visited lone_visited all_found first_block index found_at block_opened utf8
called = (refl, refl, refl, refl, refl, refl, refl, refl, refl, refl, refl, refl, refl, refl, refl, refl)
