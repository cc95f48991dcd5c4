-- Laws of lists.
-- Assumes nothing.
use Prim.Native.Nat.{ℕ, ◌+◌, ◌-◌, ◌<◌}
use mathlib.Core.List.{List, [], ◌∷◌, ◌++◌, reverse, reverse-append}
use mathlib.Core.Logic.{◌⊎◌, inl, inr}
use mathlib.Core.Path.{◌≡◌, refl, sym, ap, ◌∙◌}
use native.Mathlib.Numerals.{add-one}
use lib.ListN.{length, get_or, take, drop, length-drop}
use lib.Seq.{drop-cons, get_or-drop}
use native.Mathlib.Omega.{arith}
use Rattle.std.proofs.lemmas.List.{take_all}

pub drop_next : (s : List ℕ) (j : ℕ) → j < length s → drop j s ≡ get_or s j 0 ∷ drop (j + 1) s
drop_next s j l = rw (add-one j) (drop-cons s j 0 l)

-- a slice from i to the end
pub to_end : (s : List ℕ) (i : ℕ) → take (length s - i) (drop i s) ≡ drop i s
to_end s i = take_all (length s - i) (drop i s) (omega (arith, length-drop i s))

pub to_end_at : (s : List ℕ) (i n : ℕ) → get_or (take (length s - i) (drop i s)) n 0 ≡ get_or s (i + n) 0
to_end_at s i n = rw (to_end s i) (get_or-drop i s n 0)

pub to_end_length : (s : List ℕ) (i : ℕ) → length (take (length s - i) (drop i s)) ≡ length s - i
to_end_length s i = rw (to_end s i) (length-drop i s)

-- a list is empty or has a last element
pub last_of : (cs : List ℕ) → (cs ≡ []) ⊎ ((ds : List ℕ) × (c : ℕ) × (cs ≡ ds ++ (c ∷ [])))
last_of [] = inl refl
last_of (c ∷ cs) = inr (more (last_of cs))
  where
    more : (cs ≡ []) ⊎ ((ds : List ℕ) × (d : ℕ) × (cs ≡ ds ++ (d ∷ []))) → (ds : List ℕ) × (d : ℕ) × (c ∷ cs ≡ ds ++ (d ∷ []))
    more (inl e) = ([], c, ap (λ (l : List ℕ). c ∷ l) e)
    more (inr (ds, d, e)) = (c ∷ ds, d, ap (λ (l : List ℕ). c ∷ l) e)

-- which is that of another list that is the same
pub same_last : (xs ys : List ℕ) (b d : ℕ) → xs ++ (b ∷ []) ≡ ys ++ (d ∷ []) → b ≡ d
same_last xs ys b d e =
    ap (λ (l : List ℕ). get_or l 0 0) (sym (reverse-append xs (b ∷ [])) ∙ ap reverse e ∙ reverse-append ys (d ∷ []))
