-- The definitions of the search, one place and one block at a time: what a front part of the blocks says of all of them.
-- Assumes nothing.
use Prim.Native.Nat.{ℕ, zero, suc, ◌+◌, ◌<◌, ◌≤◌}
use native.Mathlib.Omega.{arith}
use mathlib.Core.Path.{◌≡◌, refl, ap, ◌∙◌}
use mathlib.Core.Bool.{Bool, true, false, cond, ◌&&◌, ◌||◌}
use mathlib.Core.List.{List, [], ◌∷◌, ◌++◌, map}
use mathlib.Core.Option.{Option, none, some}
use lib.ListN.{length, get_or, length-append}
use Rattle.std.specs.Prelude.{if◌then◌else◌}
use Rattle.text.specs.Words.{◌>>=◌, case, index, is_empty, starts_with}
use Rattle.text.proofs.Tests.{and_true, false_true, true_false}
use Rattle.records.specs.Blocks.{Block}
use Rattle.codes.specs.Search.{is_some, text_of, contains, first_block, lone_visited, visited, all_found}

some_is : (o : Option ℕ) → is_some o ≡ true → (n : ℕ) × (o ≡ some n)
some_is none e = false_true e
some_is (some n) e = (n, refl)

-- ---- a code in a text, by places
pub contains_none : (c : List ℕ) → contains c [] ≡ is_empty c
unfolding index
contains_none [] = refl
contains_none (d ∷ c) = refl

pub contains_more : (c : List ℕ) (a : ℕ) (s : List ℕ) → contains c (a ∷ s) ≡ starts_with c (a ∷ s) || contains c s
unfolding index
contains_more c a s = by (starts_with c (a ∷ s)) (index c s)
  where
    by : (t : Bool) (o : Option ℕ) → is_some (cond t (some 0) (o >>= (λ n. some (suc n)))) ≡ t || is_some o
    by true o = refl
    by false none = refl
    by false (some n) = refl

-- ---- one code in blocks
module _ (c : List ℕ) where
  pub first_step : (b : Block) (bs : List Block)
      → first_block c (b ∷ bs) ≡ (if contains c (text_of b) then some 0 else first_block c bs >>= (λ n. some (suc n)))
  unfolding first_block
  first_step b bs = refl

  -- it stands in the first of them, or in the others
  pub first_append : (before rest : List Block)
      → first_block c (before ++ rest) ≡ case (first_block c before) (first_block c rest >>= (λ n. some (length before + n))) some
  unfolding first_block
  first_append [] rest = by (first_block c rest)
    where
      by : (o : Option ℕ) → o ≡ o >>= (λ n. some (0 + n))
      by none = refl
      by (some n) = let e : n ≡ 0 + n = omega arith in ap some e
  first_append (b ∷ before) rest = rw (first_append before rest) (by (contains c (text_of b)) (first_block c before) (first_block c rest))
    where
      by : (t : Bool) (o p : Option ℕ)
          → cond t (some 0) (case o (p >>= (λ n. some (length before + n))) some >>= (λ n. some (suc n)))
          ≡ case (cond t (some 0) (o >>= (λ n. some (suc n)))) (p >>= (λ n. some (suc (length before) + n))) some
      by true o p = refl
      by false (some n) p = refl
      by false none none = refl
      by false none (some n) = let e : suc (length before + n) ≡ suc (length before) + n = omega arith in ap some e

  pub first_more : (before : List Block) (b : Block)
      → first_block c (before ++ (b ∷ [])) ≡ case (first_block c before) (if contains c (text_of b) then some (length before) else none) some
  unfolding first_block
  first_more before b = first_append before (b ∷ []) ∙ ap (λ (o : Option ℕ). case (first_block c before) o some) (by (contains c (text_of b)))
    where
      by : (t : Bool) → cond t (some 0) none >>= (λ n. some (length before + n)) ≡ cond t (some (length before)) none
      by true = let e : length before + 0 ≡ length before = omega arith in ap some e
      by false = refl

  pub first_stays : (before rest : List Block) {n : ℕ} → first_block c before ≡ some n → first_block c (before ++ rest) ≡ some n
  first_stays before rest e = first_append before rest ∙ rw e

  pub lone_append : (before rest : List Block) → lone_visited c (before ++ rest) ≡ case (first_block c before) (length before + lone_visited c rest) suc
  unfolding lone_visited
  lone_append before rest = rw (first_append before rest, length-append before rest) (by (first_block c before) (first_block c rest))
    where
      by : (o p : Option ℕ) → case (case o (p >>= (λ n. some (length before + n))) some) (length before + length rest) suc
          ≡ case o (length before + case p (length rest) suc) suc
      by (some n) p = refl
      by none none = refl
      by none (some n) = omega arith

  lone_some : (b : Block) (bs : List Block) → 1 ≤ lone_visited c (b ∷ bs)
  unfolding lone_visited
  lone_some b bs = by (first_block c (b ∷ bs))
    where
      by : (o : Option ℕ) → 1 ≤ case o (suc (length bs)) suc
      by none = omega arith
      by (some n) = omega arith

  pub lone_most : (bs : List Block) → lone_visited c bs ≤ length bs
  unfolding lone_visited first_block
  lone_most [] = omega arith
  lone_most (b ∷ bs) = by (contains c (text_of b)) (first_block c bs) (lone_most bs)
    where
      by : (t : Bool) (o : Option ℕ) → case o (length bs) suc ≤ length bs
          → case (cond t (some 0) (o >>= (λ n. some (suc n)))) (suc (length bs)) suc ≤ suc (length bs)
      by true o l = omega arith
      by false none l = omega arith
      by false (some n) l = omega arith

-- ---- all codes
module _ (bs : List Block) where
  pub found_each : (cs : List (List ℕ)) (i : ℕ) → i < length cs → all_found cs bs ≡ true → is_some (first_block (get_or cs i []) bs) ≡ true
  unfolding all_found
  found_each [] i l e = absurd (omega arith)
  found_each (c ∷ cs) zero l e = (and_true (is_some (first_block c bs)) (all_found cs bs) e).0
  found_each (c ∷ cs) (suc i) l e = found_each cs i (omega arith) (and_true (is_some (first_block c bs)) (all_found cs bs) e).1

  -- where not every code has its number, some code has none
  pub record Missing (cs : List (List ℕ)) : Type 0 where
    pub place : ℕ
    pub within : place < length cs
    pub missing : first_block (get_or cs place []) bs ≡ none

  pub missing_one : (cs : List (List ℕ)) → all_found cs bs ≡ false → Missing cs
  unfolding all_found
  missing_one [] e = true_false e
  missing_one (c ∷ cs) e = by (first_block c bs) refl (missing_one cs) e
    where
      by : (o : Option ℕ) → first_block c bs ≡ o → (all_found cs bs ≡ false → Missing cs) → is_some o && all_found cs bs ≡ false → Missing (c ∷ cs)
      by none p h e = record { place = zero; within = omega arith; missing = p }
      by (some n) p h e =
          let w = h e in
          let l : w.place < length cs = w.within in
          record { place = suc w.place; within = omega arith; missing = w.missing }

  pub visited_at : (cs : List (List ℕ)) (i : ℕ) → i < length cs → lone_visited (get_or cs i []) bs ≤ visited cs bs
  unfolding visited
  visited_at [] i l = absurd (omega arith)
  visited_at (c ∷ cs) zero l = omega arith
  visited_at (c ∷ cs) (suc i) l = let h = visited_at cs i (omega arith) in omega arith

pub visited_most : (cs : List (List ℕ)) (bs : List Block) → visited cs bs ≤ length bs
unfolding visited
visited_most [] bs = omega arith
visited_most (c ∷ cs) bs = let l = lone_most c bs in let m = visited_most cs bs in omega arith

-- where some code has no number yet, the walk goes on
pub visited_more : (cs : List (List ℕ)) (before : List Block) (b : Block) (rest : List Block) → all_found cs before ≡ false
    → length before < visited cs (before ++ (b ∷ rest))
visited_more cs before b rest e =
    let w = missing_one before cs e in
    let c = get_or cs w.place [] in
    let p : lone_visited c (before ++ (b ∷ rest)) ≡ length before + lone_visited c (b ∷ rest) = lone_append c before (b ∷ rest) ∙ rw w.missing in
    let l = lone_some c b rest in
    let m = visited_at (before ++ (b ∷ rest)) cs w.place w.within in
    omega arith

-- where every code has its number, nothing that follows is seen
module _ (before rest : List Block) where
  pub record Stays (cs : List (List ℕ)) : Type 0 where
    pub visits : visited cs (before ++ rest) ≡ visited cs before
    pub founds : all_found cs (before ++ rest) ≡ true
    pub numbers : map (λ c. first_block c (before ++ rest)) cs ≡ map (λ c. first_block c before) cs

  pub stays : (cs : List (List ℕ)) → all_found cs before ≡ true → Stays cs
  unfolding visited all_found lone_visited
  stays [] e = record { visits = refl; founds = refl; numbers = refl }
  stays (c ∷ cs) e =
      let (f, g) = and_true (is_some (first_block c before)) (all_found cs before) e in
      let (n, p) = some_is (first_block c before) f in
      let q = first_stays c before rest p in
      let h = stays cs g in
      record { visits = rw (p, q, h.visits); founds = rw (q, h.founds); numbers = rw (p, q, h.numbers) }

pub visited_all : (cs : List (List ℕ)) (before rest : List Block) → all_found cs before ≡ true → visited cs (before ++ rest) ≤ length before
visited_all cs before rest e = omega (arith, (stays before rest cs e).visits, visited_most cs before)
