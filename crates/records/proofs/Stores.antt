-- Runs of stores: one after another, one whose head is stored into the gap before its text, and those past the end.
-- Assumes nothing.
use Prim.Native.Nat.{ℕ, zero, suc, ◌+◌, ◌-◌, ◌≤◌, ◌<◌, min}
use native.Mathlib.Nat.{add-zero, zero-add}
use native.Mathlib.Numerals.{add-one}
use native.Mathlib.Omega.{arith}
use mathlib.Core.Path.{◌≡◌, refl, sym, ap, ap₂, ◌∙◌}
use mathlib.Core.Logic.{⊎_elim}
use mathlib.Core.List.{List, [], ◌∷◌, ◌++◌, append_assoc}
use lib.ListN.{length, take, drop, get_or, set, drop_of_length-le, take-append-drop}
use lib.Dec.{leb}
use borrow.Author.Tests.{leb-true, leb-false}
use Rattle.text.proofs.Tests.{decide}
use lib.Seq.{sets, set_comm, set_out, drop-cons, drop-drop, sets-eq, length-sets, length-take-le}
use borrow.Rule.Slice.PartMut.{put_mid}
use Rattle.std.specs.Int.{byte_at, bytes_low_first}

-- two runs, the second behind the first, are one
pub sets_append : (l : List ℕ) (a : ℕ) (h t : List ℕ) → sets l a (h ++ t) ≡ sets (sets l a h) (a + length h) t
sets_append l a [] t = ap (λ (n : ℕ). sets l n t) (sym (add-zero a))
sets_append l a (x ∷ h) t =
    sets_append (set l a x) (suc a) h t
    ∙ ap (λ (n : ℕ). sets (sets (set l a x) (suc a) h) n t) (omega arith)

-- a store below a run of stores can be made first
set_below : (l : List ℕ) (i x j : ℕ) (t : List ℕ) → i < j → set (sets l j t) i x ≡ sets (set l i x) j t
set_below l i x j [] h = refl
set_below l i x j (y ∷ t) h =
    set_below (set l j y) i x (suc j) t (omega arith)
    ∙ ap (λ (m : List ℕ). sets m (suc j) t) (set_comm l j i y x (λ e. omega arith))

-- text after a gap, and then its head in the gap
pub gap : (l : List ℕ) (a j : ℕ) (h t : List ℕ) → a + length h ≡ j → sets (sets l j t) a h ≡ sets l a (h ++ t)
gap l a j [] t e = ap (λ (n : ℕ). sets l n t) (sym e ∙ add-zero a)
gap l a j (x ∷ h) t e =
    ap (λ (m : List ℕ). sets m (suc a) h) (set_below l a x j t (omega arith))
    ∙ gap (set l a x) (suc a) j h t (omega arith)

-- past the end nothing is stored
pub sets_out : (l : List ℕ) (a : ℕ) (t : List ℕ) → length l ≤ a → sets l a t ≡ l
sets_out l a [] h = refl
sets_out l a (x ∷ t) h = ap (λ (m : List ℕ). sets m (suc a) t) (set_out l a x h) ∙ sets_out l (suc a) t (omega arith)

-- a run that fits, from the front of a buffer: the bytes, and every other one as before
pub sets_front : (l t : List ℕ) → length t ≤ length l → sets l 0 t ≡ t ++ drop (length t) l
sets_front l t h = sets-eq t l 0 (omega arith) ∙ ap (λ (n : ℕ). t ++ drop n l) (zero-add (length t))

-- one store more of a run that is stored by an index
pub sets_next : (l s : List ℕ) (a i : ℕ) → i < length s → sets (set l (a + i) (get_or s i 0)) (a + (i + 1)) (drop (i + 1) s) ≡ sets l (a + i) (drop i s)
sets_next l s a i h =
    sym
    (ap (sets l (a + i)) (drop-cons s i 0 h)
    ∙ ap₂ (λ (n m : ℕ). sets (set l (a + i) (get_or s i 0)) n (drop m s)) (omega arith) (sym (add-one i)))

-- nothing is left to store, or no room
pub sets_rest : (l s : List ℕ) (a i : ℕ) → min (length s) (length l - a) ≤ i → sets l (a + i) (drop i s) ≡ l
sets_rest l s a i h =
    ⊎_elim
    (λ e. ap (sets l (a + i)) (drop_of_length-le s (leb-true (length s) i e)))
    (λ e. sets_out l (a + i) (drop i s) (omega (arith, leb-false (length s) i e)))
    (decide (leb (length s) i))

-- the part of a run that there is room for, in its place
pub sets_part : (l s : List ℕ) (a n : ℕ) → a ≤ length l → n ≡ min (length s) (length l - a) → put_mid a (a + n - a) l (take n s) ≡ sets l a s
sets_part l s a n h e =
    let m : length (take n s) ≡ n = length-take-le n s (omega arith) in
    let k : a + n - a ≡ n = omega arith in
    let whole : sets l a s ≡ sets l a (take n s) =
    ap (sets l a) (sym (take-append-drop n s)) ∙ sets_append l a (take n s) (drop n s)
    ∙ ap (λ (k : ℕ). sets (sets l a (take n s)) (a + k) (drop n s)) m
    ∙ sets_rest (sets l a (take n s)) s a n (rw length-sets (omega arith)) in
    let end : drop n (drop a l) ≡ drop (a + length (take n s)) l = drop-drop n a l ∙ ap (λ (k : ℕ). drop (a + k) l) (sym m) in
    rw (k, end) (sym (append_assoc (take a l) (take n s) (drop (a + length (take n s)) l)) ∙ sym (sets-eq (take n s) l a (omega arith)) ∙ sym whole)

-- the lower bytes of a number are the first ones of more of them
pub bytes_front : (i k m n : ℕ) → k ≤ m → take k (bytes_low_first i m n) ≡ bytes_low_first i k n
bytes_front i zero m n h = refl
bytes_front i (suc k) zero n h = absurd (omega arith)
bytes_front i (suc k) (suc m) n h = ap (λ (l : List ℕ). byte_at i n ∷ l) (bytes_front (suc i) k m n (omega arith))
