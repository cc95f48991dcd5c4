-- Many codes in one walk (U10): "The walk ends after the block with which every code has its number, otherwise at the end of the records", and the
-- result carries the number of blocks visited, "0 when there are no codes". `visited` is the least number of blocks in which every code has its number
-- (`walk_ends`), and that of all blocks where some code has none (`walk_ends_last`). Without codes it is 0, whatever the records are (`no_codes`).
-- Assumes nothing.
use Prim.Native.Nat.{ℕ, min, ◌+◌}
use native.Mathlib.Omega.{arith}
use mathlib.Core.Path.{◌≡◌, refl, sym, ap, ◌∙◌}
use mathlib.Core.Bool.{Bool, true, false, not}
use mathlib.Core.List.{List, [], ◌∷◌, ◌++◌, append-nil}
use mathlib.Core.Option.{none}
use lib.ListN.{length, take, drop, get_or, replicate, length-drop}
use lib.Dec.{leb}
use borrow.Author.Tests.{le-leb, lt-leb}
use Rattle.std.proofs.lemmas.List.{length-take, take-append-drop}
use Rattle.text.proofs.Tests.{and_false, false_true}
use Rattle.records.specs.Blocks.{Block}
use Rattle.walker.specs.Answers.{gives}
use Rattle.codes.specs.Search.{lone_visited, visited, all_found}
use Rattle.codes.specs.Calls.{are_codes, search, reading, codes_answer}
use Rattle.codes.proofs.SearchLaws.{missing_one, visited_at, visited_most, visited_more, visited_all}

ends_at : (cs : List (List ℕ)) (x y : List Block) (k : ℕ) → all_found cs (x ++ y) ≡ true → length x ≡ min k (length x + length y)
    → (t : Bool) → all_found cs x ≡ t → t ≡ leb (visited cs (x ++ y)) k
ends_at cs x y k e m true t = sym (le-leb (visited cs (x ++ y)) k (omega (arith, visited_all cs x y t)))
ends_at cs x [] k e m false t = false_true (sym t ∙ ap (all_found cs) (sym (append-nil x)) ∙ e)
ends_at cs x (b ∷ y) k e m false t = sym (lt-leb (visited cs (x ++ (b ∷ y))) k (omega (arith, visited_more cs x b y t)))

-- every code has its number with the first k blocks exactly if these are as many as are visited, or more
pub walk_ends : (cs : List (List ℕ)) (bs : List Block) → all_found cs bs ≡ true → (k : ℕ) → all_found cs (take k bs) ≡ leb (visited cs bs) k
walk_ends cs bs e k =
    let p = take-append-drop k bs in
    let m : length (take k bs) ≡ min k (length (take k bs) + length (drop k bs)) = omega (arith, length-take k bs, length-drop k bs) in
    ends_at cs (take k bs) (drop k bs) k (ap (all_found cs) p ∙ e) m (all_found cs (take k bs)) refl ∙ ap (λ (l : List Block). leb (visited cs l) k) p

pub walk_ends_last : (cs : List (List ℕ)) (bs : List Block) → all_found cs bs ≡ false → visited cs bs ≡ length bs
unfolding lone_visited
walk_ends_last cs bs e =
    let w = missing_one bs cs e in
    let l : lone_visited (get_or cs w.place []) bs ≡ length bs = rw w.missing in
    omega (arith, visited_at bs cs w.place w.within, visited_most cs bs)

pub no_codes : (s : List ℕ) → codes_answer s [] [] ≡ gives (record { visited = 0; blocks = replicate 16 none })
unfolding codes_answer are_codes search all_found visited
no_codes s = rw (and_false (reading s).broken (not true) refl)
