-- The laws of the run of elements that a list starts with: one turn of a loop that passes over it, element by element or by blocks.
-- Assumes nothing.
use Prim.Native.Nat.{ℕ, zero, suc, ◌+◌, ◌≤◌, ◌<◌}
use mathlib.Core.Bool.{Bool, true, false, cond, ◌&&◌, and_assoc, and-true as and_true_right}
use mathlib.Core.List.{List, [], ◌∷◌, ◌++◌}
use mathlib.Core.Path.{◌≡◌, refl, sym, ap, ◌∙◌}
use native.Mathlib.Numerals.{add-one}
use native.Mathlib.Omega.{arith}
use lib.ListN.{length, get_or, take, drop, length-drop, drop_of_length-le}
use lib.Seq.{drop-cons, drop-drop, take-suc, get_or-drop}
use Rattle.text.specs.Words.{all, take_while, drop_while}
use Rattle.text.specs.Run.{RunTo}
use Rattle.text.proofs.Tests.{on, and_true}

module _ (p : ℕ → Bool) where
  pub run_next : (s : List ℕ) (j : ℕ) → j < length s → p (get_or s j 0) ≡ true
      → length (take_while p (drop j s)) ≡ suc (length (take_while p (drop (j + 1) s)))
  unfolding take_while
  run_next s j l e = rw (drop-cons s j 0 l, e, add-one j)

  pub run_stop : (s : List ℕ) (j : ℕ) → j < length s → p (get_or s j 0) ≡ false → take_while p (drop j s) ≡ []
  unfolding take_while
  run_stop s j l e = rw (drop-cons s j 0 l, e)

  pub run_end : (s : List ℕ) (j : ℕ) → length s ≤ j → take_while p (drop j s) ≡ []
  unfolding take_while
  run_end s j l = rw (drop_of_length-le s l)

  -- the run is the front of the list
  pub run_take : (s : List ℕ) → take (length (take_while p s)) s ≡ take_while p s
  unfolding take_while
  run_take [] = refl
  run_take (x ∷ s) = on (λ (l : List ℕ). take (length l) (x ∷ s) ≡ l) (p x) (λ _. ap (λ (l : List ℕ). x ∷ l) (run_take s)) (λ _. refl)

  pub run_le : (s : List ℕ) → length (take_while p s) ≤ length s
  unfolding take_while
  run_le [] = omega arith
  run_le (x ∷ s) = let h = run_le s in on (λ (l : List ℕ). length l ≤ suc (length s)) (p x) (λ _. omega arith) (λ _. omega arith)

  -- what is in it passes
  all_front : (m : ℕ) (s : List ℕ) → m ≤ length (take_while p s) → all p (take m s) ≡ true
  unfolding take_while
  all_front zero s l = refl
  all_front (suc m) [] l = refl
  all_front (suc m) (x ∷ s) l = go (all_front m s) (p x) refl l
    where
      go : (m ≤ length (take_while p s) → all p (take m s) ≡ true) → (t : Bool) → p x ≡ t → suc m ≤ length (cond t (x ∷ take_while p s) []) → p x && all p (take m s) ≡ true
      go ih true e l = rw e (ih (omega arith))
      go ih false e l = absurd (omega arith)

  pub run_all : (s : List ℕ) → all p (take_while p s) ≡ true
  run_all s = ap (all p) (sym (run_take s)) ∙ all_front (length (take_while p s)) s (omega arith)

  pub run_split : (s : List ℕ) → take_while p s ++ drop_while p s ≡ s
  unfolding take_while drop_while
  run_split [] = refl
  run_split (x ∷ s) = go (p x) (run_split s)
    where
      go : (t : Bool) → take_while p s ++ drop_while p s ≡ s → cond t (x ∷ take_while p s) [] ++ cond t (drop_while p s) (x ∷ s) ≡ x ∷ s
      go true h = ap (λ (l : List ℕ). x ∷ l) h
      go false h = refl

  pub all_append : (xs ys : List ℕ) → all p (xs ++ ys) ≡ all p xs && all p ys
  all_append [] ys = refl
  all_append (x ∷ xs) ys = ap (λ (t : Bool). p x && t) (all_append xs ys) ∙ sym (and_assoc (p x) (all p xs) (all p ys))

  -- one element more
  all_next : (xs : List ℕ) (k : ℕ) → k < length xs → all p (take (k + 1) xs) ≡ all p (take k xs) && p (get_or xs k 0)
  all_next xs k h =
      rw (add-one k, take-suc xs k 0 h, all_append (take k xs) (get_or xs k 0 ∷ []), and_true_right (p (get_or xs k 0)))

  -- the next byte of a block that is tested byte by byte
  pub block_next : (s : List ℕ) (i k : ℕ) (t : Bool) → i + k < length s → t ≡ all p (take k (drop i s)) → t && p (get_or s (i + k) 0) ≡ all p (take (k + 1) (drop i s))
  block_next s i k t h e = rw (e, ← get_or-drop i s k 0) (sym (all_next (drop i s) k (omega (arith, length-drop i s))))

  pub run_block : (n : ℕ) (s : List ℕ) → n ≤ length s → all p (take n s) ≡ true
      → length (take_while p s) ≡ n + length (take_while p (drop n s))
  unfolding take_while
  run_block zero s l h = omega arith
  run_block (suc n) [] l h = absurd (omega arith)
  run_block (suc n) (x ∷ s) l h =
      let e = and_true (p x) (all p (take n s)) h in
      let ih = run_block n s (omega arith) e.1 in
      rw e.0 (omega arith)

  -- ---- a loop from offset i that is at offset j
  module _ (s : List ℕ) (i : ℕ) where
    pub at_start : i ≤ length s → RunTo p s i i
    at_start l = record { low = omega arith; high = l; run = refl }

    pub past_one : (j : ℕ) → RunTo p s i j → j < length s → p (get_or s j 0) ≡ true → RunTo p s i (j + 1)
    past_one j h l e =
        let r = h.run in
        let z = run_next s j l e in
        record { low = omega (arith, h.low); high = omega arith; run = omega arith }

    pub past_block : (n j : ℕ) → RunTo p s i j → j + n ≤ length s → all p (take n (drop j s)) ≡ true → RunTo p s i (j + n)
    past_block n j h l e =
        let r = h.run in
        let b = run_block n (drop j s) (omega (arith, length-drop j s)) e in
        let d = ap (λ (x : List ℕ). length (take_while p x)) (drop-drop n j s) in
        record { low = omega (arith, h.low); high = l; run = omega arith }

    pub past_run : (j k : ℕ) → RunTo p s i j → RunTo p s j k → RunTo p s i k
    past_run j k h l = record { low = omega (arith, h.low, l.low); high = l.high; run = h.run ∙ l.run }

    -- where it ends
    pub at_stop : (j : ℕ) → RunTo p s i j → j < length s → p (get_or s j 0) ≡ false → i + length (take_while p (drop i s)) ≡ j
    at_stop j h l e = let r = h.run in let z = ap length (run_stop s j l e) in omega arith

    pub at_end : (j : ℕ) → RunTo p s i j → length s ≤ j → i + length (take_while p (drop i s)) ≡ j
    at_end j h l = let r = h.run in let z = ap length (run_end s j l) in omega arith

-- what each element of a run leaves as it is, the run does
module _ (p : ℕ → Bool) {A : Type 0} (f : List ℕ → A) (skips : (x : ℕ) (s : List ℕ) → p x ≡ true → f (x ∷ s) ≡ f s) where
  run_skipped : (s : List ℕ) → f s ≡ f (drop (length (take_while p s)) s)
  unfolding take_while
  run_skipped [] = refl
  run_skipped (x ∷ s) = on (λ (l : List ℕ). f (x ∷ s) ≡ f (drop (length l) (x ∷ s))) (p x) (λ h. skips x s h ∙ run_skipped s) (λ _. refl)

  pub run_same : (s : List ℕ) (i j : ℕ) → RunTo p s i j → f (drop i s) ≡ f (drop j s)
  run_same s i j r =
      run_skipped (drop i s)
      ∙ rw (drop-drop (length (take_while p (drop i s))) i s, r.run, ← drop-drop (length (take_while p (drop j s))) j s) (sym (run_skipped (drop j s)))
